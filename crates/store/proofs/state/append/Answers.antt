-- `store::state::append` meets its contract: a store just past the records in use is an append (`piece_appended`).
use Rattle.store.proofs.StateLaws.{piece_appended}
use Rattle.store.proofs.state.append.Goals as goal

pub returns : goal.returns
returns c = search piece_appended
