-- `activity::moved_past` meets its contract: what is left of the move from `f` is the whole move from `from`.
-- Assumes nothing.
use Rattle.activity.proofs.UpdateLaws.{Moving}
use Rattle.activity.proofs.moved_past.Given as goal

abbrev pub invariant-loop-f : goal.invariant-loop-f
invariant-loop-f l = Moving l.fragments l.start l.from l.stop l.f
