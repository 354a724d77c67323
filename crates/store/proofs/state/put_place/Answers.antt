-- `store::state::put_place` meets its contract: the piece is read, put into the place, and set (`place_put`).
use Rattle.store.proofs.StateLaws.{place_put}
use Rattle.store.proofs.state.put_place.Goals as goal

pub returns : goal.returns
returns c = search place_put
