-- `store::state::enqueue` meets its contract: the key of record k is pushed on the heap (`record_queued`).
use Rattle.store.proofs.StateLaws.{record_queued}
use Rattle.store.proofs.state.enqueue.Goals as goal

pub returns : goal.returns
returns c = search record_queued
