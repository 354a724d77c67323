-- `store::state::pop` meets its contract: the key popped off the heap is the first of the queue, and names a record (`first_popped`).
use Rattle.store.proofs.StateLaws.{first_popped}
use Rattle.store.proofs.state.pop.Goals as goal

pub returns : goal.returns
returns c = search first_popped
