-- `store::area::load` meets its contract. The invariant: the state is the one where the first k of the records are queued.
use Rattle.store.proofs.AreaLaws.{queueing_starts, queueing_more, queueing_ends}
use Rattle.store.proofs.area.load.Goals as goal

pub loop-k-init : goal.loop-k-init
loop-k-init c = search queueing_starts

pub loop-k-preserved : goal.loop-k-preserved
loop-k-preserved c = search queueing_more

pub returns : goal.returns
returns c = search queueing_ends
