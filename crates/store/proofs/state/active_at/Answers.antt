-- `store::state::active_at` meets its contract: entry i of the active records in use, which names a record (`got_active`).
use Rattle.store.proofs.StateLaws.{got_active}
use Rattle.store.proofs.state.active_at.Goals as goal

pub returns : goal.returns
returns c = search got_active
