-- `split::splits::split` meets its contract: the halves of the piece that was read are put.
-- Assumes nothing.
use Rattle.split.proofs.SplitLaws.{got_orderly, parted}
use Rattle.split.proofs.splits.split.Goals as goal

pub cut-halves-requires : goal.cut-halves-requires
cut-halves-requires c = search got_orderly

pub returns : goal.returns
returns c = search parted
