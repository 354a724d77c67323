-- `activity::update` meets its contract: each turn moves the cursor of one register of the class, and the cursors that are still to move stand among their fragments.
-- Assumes nothing.
use Rattle.activity.proofs.UpdateLaws.{Updating}
use Rattle.activity.proofs.update.Given as goal

abbrev pub invariant-loop-r : goal.invariant-loop-r
invariant-loop-r l = Updating l.registers l.fragments l.start l.first l.count l.initial.t l.t l.r
