-- `split::spilling::split_then_spill` meets its contract: the split of `split_and_queue`, and the spill where it was done.
-- Assumes nothing.
use Rattle.split.proofs.TurnLaws.{on_spilling}
use Rattle.words.proofs.Residual.{passed}
use Rattle.split.proofs.SpillingLaws.{then_spilt, then_off}
use Rattle.split.proofs.spilling.split_then_spill.Goals as goal

pub spill-requires : goal.spill-requires
spill-requires c = search (on_spilling, c.in_ok-parted.was)

pub returns : goal.returns
returns c = search (then_spilt, c.in_ok-parted.was)

pub returns-in_err-parted : goal.returns-in_err-parted
returns-in_err-parted c = rw (passed _ _ c.from_residual.ensures.1) (search (then_off, c.in_err-parted.was))
