-- `store::cells::put_home` meets its contract: what is packed is read back, and no other list has this word (`home_put`).
use Rattle.store.proofs.CellLaws.{home_put}
use Rattle.store.proofs.cells.put_home.Goals as goal

pub returns : goal.returns
returns c = search home_put
