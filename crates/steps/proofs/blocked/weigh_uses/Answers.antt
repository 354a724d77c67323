-- `steps::blocked::weigh_uses` meets its contract: the holders give the next uses, and the furthest of them is weighed.
-- Assumes nothing.
use Rattle.steps.proofs.BlockedLaws.{weighing_popping, chosen}
use Rattle.steps.proofs.blocked.weigh_uses.Goals as goal

pub weigh-requires : goal.weigh-requires
weigh-requires c = record { popping = search weighing_popping; chosen = search chosen }
