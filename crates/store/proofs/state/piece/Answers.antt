-- `store::state::piece` meets its contract: record k is entry k of the pieces in use, and a sane state has its interval (`got`).
use Rattle.store.proofs.StateLaws.{got}
use Rattle.store.proofs.state.piece.Goals as goal

pub returns : goal.returns
returns c = search got
