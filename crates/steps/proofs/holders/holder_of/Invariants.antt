-- `steps::holders::holder_of` meets its contract: what is left of the walk holds the answer, and the first record in the register is it.
-- Assumes nothing.
use Rattle.steps.proofs.WeighingLaws.{Seeking}
use Rattle.steps.proofs.holders.holder_of.Given as goal

abbrev pub invariant-loop-i : goal.invariant-loop-i
invariant-loop-i l = Seeking l.cap l.work l.counts l.r l.i
