-- `store::cells::piece_at` meets its contract: row k of the pieces is four words from k * 4 (`piece_got`).
use Rattle.store.proofs.CellLaws.{piece_got}
use Rattle.store.proofs.cells.piece_at.Goals as goal

pub returns : goal.returns
returns c = search piece_got
