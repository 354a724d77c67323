-- `activity::ended::drop_ended` meets its contract: after each turn the first `kept` active records are those of the first `i` that stay, and from `i` on nothing has changed.
-- Assumes nothing.
use Rattle.activity.proofs.EndedLaws.{Dropping}
use Rattle.activity.proofs.ended.drop_ended.Given as goal

abbrev pub invariant-loop-i : goal.invariant-loop-i
invariant-loop-i l = Dropping l.cap l.initial.work l.counts l.start l.work l.kept l.i
