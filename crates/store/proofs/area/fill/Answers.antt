-- `store::area::fill` meets its contract. The invariant: the first k pieces are the whole intervals, the first k homes without a slot.
use Rattle.store.proofs.AreaLaws.{filling_more}
use Rattle.store.proofs.area.fill.Goals as goal

pub loop-k-preserved : goal.loop-k-preserved
loop-k-preserved c = search filling_more
