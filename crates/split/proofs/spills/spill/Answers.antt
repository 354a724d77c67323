-- `split::spills::spill` meets its contract: the slot's size is read from the interval's first word.
-- Assumes nothing.
use Rattle.split.proofs.SpillLaws.{spilt}
use Rattle.split.proofs.spills.spill.Goals as goal

pub returns : goal.returns
returns c = search spilt
