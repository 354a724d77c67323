-- `store::cells::active_at` meets its contract: active record k is word cap * 6 + k (`active_got`).
use Rattle.store.proofs.CellLaws.{active_got}
use Rattle.store.proofs.cells.active_at.Goals as goal

pub returns : goal.returns
returns c = search active_got
