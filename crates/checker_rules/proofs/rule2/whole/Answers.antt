-- `rule2::whole` meets its contract: a record that a mention does not touch is fine; one that it touches is a register record with both its ends.
-- Assumes nothing.
use Rattle.checker_rules.proofs.HousedLaws.{whole_apart, whole_not, whole_last}
use Rattle.checker_rules.proofs.rule2.whole.Goals as goal

pub returns-then-l-a : goal.returns-then-l-a
returns-then-l-a c = search whole_apart

pub returns-then-f-a : goal.returns-then-f-a
returns-then-f-a c = search whole_last

pub returns-else-f-a : goal.returns-else-f-a
returns-else-f-a c = search whole_not
