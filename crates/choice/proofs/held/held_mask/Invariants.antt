-- `choice::held::held_mask` meets its contract: after the active records from `i` on have had their say, the bits are those of the registers that they hold.
-- Assumes nothing.
use Rattle.store.specs.StateOf.{state_of}
use Rattle.choice.proofs.HoldingLaws.{Masked}
use Rattle.choice.proofs.held.held_mask.Given as goal

abbrev pub invariant-loop-i : goal.invariant-loop-i
invariant-loop-i l = Masked (state_of l.cap l.work l.counts) l.mask l.i
