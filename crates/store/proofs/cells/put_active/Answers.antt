-- `store::cells::put_active` meets its contract: no other list has this word (`active_put`).
use Rattle.store.proofs.CellLaws.{active_put}
use Rattle.store.proofs.cells.put_active.Goals as goal

pub returns : goal.returns
returns c = search active_put
