-- `rule6::size_of` meets its contract: the four logarithms, one by one.
-- Assumes nothing.
use Rattle.checker_rules.proofs.SlotsLaws.{shifted}
use Rattle.checker_rules.proofs.rule6.size_of.Goals as goal

pub returns : goal.returns
returns c = shifted _ c.requires
