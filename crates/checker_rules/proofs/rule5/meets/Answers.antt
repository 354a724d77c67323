-- `rule5::meets` meets its contract: the last fragment that starts at the last point or before is the one to look at.
-- Assumes nothing.
use Rattle.checker_rules.proofs.FixedLaws.{meets_last}
use Rattle.checker_rules.proofs.rule5.meets.Goals as goal

pub returns-then-from-j : goal.returns-then-from-j
returns-then-from-j c = search meets_last
