-- `store::state::push_active` meets its contract: a store just past the active records in use is an append (`active_pushed`).
use Rattle.store.proofs.StateLaws.{active_pushed}
use Rattle.store.proofs.state.push_active.Goals as goal

pub returns : goal.returns
returns c = search active_pushed
