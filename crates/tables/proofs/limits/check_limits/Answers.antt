-- `tables::limits::check_limits` meets its contract: the test of all limits decides.
-- Assumes nothing.
use Rattle.rules.specs.Sound.{check_limits}
use Rattle.tables.proofs.limits.check_limits.Goals as goal

pub returns-then-in_limits : goal.returns-then-in_limits
unfolding check_limits
returns-then-in_limits c = simp (← c.in_limits.ensures, c.if-in_limits.true)

pub returns-else-in_limits : goal.returns-else-in_limits
unfolding check_limits
returns-else-in_limits c = simp (← c.in_limits.ensures, c.if-in_limits.false)
