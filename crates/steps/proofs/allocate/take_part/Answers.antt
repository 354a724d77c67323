-- `steps::allocate::take_part` meets its contract: the split of `split_and_queue`, and the register taken where it was done.
-- Assumes nothing.
use Rattle.words.proofs.Residual.{passed}
use Rattle.steps.proofs.AllocateLaws.{parted_taking, part_taken, part_off}
use Rattle.steps.proofs.allocate.take_part.Goals as goal

pub take_register-requires : goal.take_register-requires
take_register-requires c = search (parted_taking, c.in_ok-parted.was)

pub returns : goal.returns
returns c = search (part_taken, c.in_ok-parted.was)

pub returns-in_err-parted : goal.returns-in_err-parted
returns-in_err-parted c = rw (passed _ _ c.from_residual.ensures.1) (search (part_off, c.in_err-parted.was))
