-- `tables::check::check_tables` meets its contract: the first check that refuses is the answer, and what the earlier ones found good is what the later ones ask.
-- Assumes nothing.
use Rattle.words.proofs.Residual.{passed_on}
use Rattle.rules.specs.Sound.{check_tables}
use Rattle.tables.proofs.OrderLaws.{limits, ranged, placed}
use Rattle.tables.proofs.check.check_tables.Goals as goal

pub returns-in_err-check_limits : goal.returns-in_err-check_limits
unfolding check_tables
returns-in_err-check_limits c = passed_on _ _ _ c.from_residual.ensures.1 (simp (← c.check_limits.ensures, c.in_err-check_limits.was))

pub bad_class-requires : goal.bad_class-requires
bad_class-requires c = (limits _ _ c.check_limits.ensures c.in_ok-check_limits.was).classes

pub returns-in-Some : goal.returns-in-Some
unfolding check_tables
returns-in-Some c = simp (← c.check_limits.ensures, c.in_ok-check_limits.was, ← c.in-Some.ensures)

pub bad_interval-requires : goal.bad_interval-requires
bad_interval-requires c = let l = limits _ _ c.check_limits.ensures c.in_ok-check_limits.was in (l.instructions, l.intervals)

pub returns-in-Some-bad_interval : goal.returns-in-Some-bad_interval
unfolding check_tables
returns-in-Some-bad_interval c = simp (← c.check_limits.ensures, c.in_ok-check_limits.was, ← c.in_default.ensures, ← c.in-Some-bad_interval.ensures)

pub bad_mention-requires : goal.bad_mention-requires
bad_mention-requires c = (ranged _ _ c.bad_interval.ensures c.in_default-bad_interval.is, (limits _ _ c.check_limits.ensures c.in_ok-check_limits.was).mentions)

pub returns-in-Some-bad_mention : goal.returns-in-Some-bad_mention
unfolding check_tables
returns-in-Some-bad_mention c = simp (← c.check_limits.ensures, c.in_ok-check_limits.was, ← c.in_default.ensures, ← c.in_default-bad_interval.ensures, ← c.in-Some-bad_mention.ensures)

pub bad_safepoint-requires : goal.bad_safepoint-requires
bad_safepoint-requires c = (
  placed _ _ _ c.bad_interval.ensures c.in_default-bad_interval.is c.bad_mention.ensures c.in_default-bad_mention.is,
  (limits _ _ c.check_limits.ensures c.in_ok-check_limits.was).safepoints,
)

pub returns-in-Some-bad_safepoint : goal.returns-in-Some-bad_safepoint
unfolding check_tables
returns-in-Some-bad_safepoint c = simp (← c.check_limits.ensures, c.in_ok-check_limits.was, ← c.in_default.ensures, ← c.in_default-bad_interval.ensures, ← c.in_default-bad_mention.ensures, ← c.in-Some-bad_safepoint.ensures)

pub bad_fixed-requires : goal.bad_fixed-requires
bad_fixed-requires c = let l = limits _ _ c.check_limits.ensures c.in_ok-check_limits.was in (l.instructions, l.registers)

pub returns-in-Some-bad_fixed : goal.returns-in-Some-bad_fixed
unfolding check_tables
returns-in-Some-bad_fixed c = simp (← c.check_limits.ensures, c.in_ok-check_limits.was, ← c.in_default.ensures, ← c.in_default-bad_interval.ensures, ← c.in_default-bad_mention.ensures, ← c.in_default-bad_safepoint.ensures, ← c.in-Some-bad_fixed.ensures)

pub returns : goal.returns
unfolding check_tables
returns c = simp (← c.check_limits.ensures, c.in_ok-check_limits.was, ← c.in_default.ensures, ← c.in_default-bad_interval.ensures, ← c.in_default-bad_mention.ensures, ← c.in_default-bad_safepoint.ensures, ← c.in_default-bad_fixed.ensures)
