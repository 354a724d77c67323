-- `rule4::rule4` meets its contract: at first every register is free from point 0 on.
-- Assumes nothing.
use Rattle.checker_rules.proofs.BridgeLaws.{decides_4}
use Rattle.checker_rules.proofs.OrderLaws.{empty_zeros}
use borrow.Author.Rules.{rules}
use Rattle.checker_rules.proofs.rule4.rule4.Goals as goal

pub entered-requires-clause-empty : goal.entered-requires-clause-empty
entered-requires-clause-empty c = (search rules, empty_zeros 64)

pub returns : goal.returns
returns c = search decides_4
