-- `store::cells::put_piece` meets its contract: what is packed into row k is read back, and no other list has these words (`piece_stored`).
use Rattle.store.proofs.CellLaws.{piece_stored}
use Rattle.store.proofs.cells.put_piece.Goals as goal

pub returns : goal.returns
returns c = search piece_stored
