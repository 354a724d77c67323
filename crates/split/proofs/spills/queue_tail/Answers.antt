-- `split::spills::queue_tail` meets its contract: where a use follows the record is split there, else nothing is done.
-- Assumes nothing.
use Rattle.split.proofs.SplitLaws.{got_rising}
use Rattle.split.proofs.SpillLaws.{tail_none, tail_some}
use Rattle.split.proofs.spills.queue_tail.Goals as goal

pub next_use-requires : goal.next_use-requires
next_use-requires c = search got_rising

pub returns-in_default : goal.returns-in_default
returns-in_default c = search tail_none

pub returns : goal.returns
returns c = search tail_some
