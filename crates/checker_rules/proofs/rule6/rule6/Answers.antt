-- `rule6::rule6` meets its contract: the slot records break the rule, or they come to a top, which must be the total.
-- Assumes nothing.
use Rattle.checker_rules.proofs.SlotsLaws.{rule6_broken, rule6_top}
use Rattle.checker_rules.proofs.OrderLaws.{empty_zeros}
use Rattle.checker_rules.proofs.rule6.rule6.Goals as goal

pub settled-requires-clause-empty : goal.settled-requires-clause-empty
settled-requires-clause-empty c = (empty_zeros 4096, c.requires.empty)

pub returns-in_default : goal.returns-in_default
returns-in_default c = search rule6_broken

pub returns : goal.returns
returns c = search rule6_top
