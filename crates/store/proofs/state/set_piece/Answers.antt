-- `store::state::set_piece` meets its contract: a store below the records in use is one in the list of pieces (`piece_set`).
use Rattle.store.proofs.StateLaws.{piece_set}
use Rattle.store.proofs.state.set_piece.Goals as goal

pub returns : goal.returns
returns c = search piece_set
