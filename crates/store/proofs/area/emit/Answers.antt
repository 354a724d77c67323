-- `store::area::emit` meets its contract. The invariant: the first k records stand packed, the rest is as it was.
use Rattle.store.proofs.AreaLaws.{emitted_starts, emitted_more, emitted_ends}
use Rattle.store.proofs.area.emit.Goals as goal

pub loop-k-init : goal.loop-k-init
loop-k-init c = search emitted_starts

pub loop-k-preserved : goal.loop-k-preserved
loop-k-preserved c = search emitted_more

pub returns : goal.returns
returns c = search emitted_ends
