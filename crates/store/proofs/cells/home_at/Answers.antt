-- `store::cells::home_at` meets its contract: home k is word cap * 5 + k (`home_got`).
use Rattle.store.proofs.CellLaws.{home_got}
use Rattle.store.proofs.cells.home_at.Goals as goal

pub returns : goal.returns
returns c = search home_got
