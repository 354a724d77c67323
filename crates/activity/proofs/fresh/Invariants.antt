-- `activity::fresh` meets its contract: each turn sets the cursor of one register more.
-- Assumes nothing.
use Rattle.activity.proofs.UpdateLaws.{Setting}
use Rattle.activity.proofs.fresh.Given as goal

abbrev pub invariant-loop-r : goal.invariant-loop-r
invariant-loop-r l = Setting l.registers l.t l.r
