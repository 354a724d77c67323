-- `steps::blocked::first_use` meets its contract: the next use from the start of the piece that was read.
-- Assumes nothing.
use Rattle.split.proofs.SplitLaws.{got_rising}
use Rattle.steps.proofs.blocked.first_use.Goals as goal

pub next_use-requires : goal.next_use-requires
next_use-requires c = search got_rising
