-- `steps::taking::take_over` meets its contract: the register is taken, the piece cut, and the holder spilled.
-- Assumes nothing.
use Rattle.words.proofs.Residual.{passed}
use Rattle.steps.proofs.TakingLaws.{over_holding, taken_over, over_off}
use Rattle.steps.proofs.taking.take_over.Goals as goal

pub spill_holder-requires : goal.spill_holder-requires
spill_holder-requires c = search (over_holding, c.in_ok-cut.was)

pub returns : goal.returns
returns c = search (taken_over, c.in_ok-cut.was)

pub returns-in_err-cut : goal.returns-in_err-cut
returns-in_err-cut c = rw (passed _ _ c.from_residual.ensures.1) (search (over_off, c.in_err-cut.was))
