-- `store::cells::piece_in` meets its contract: the record and the ranges are read by calls, and a field of 12 bits is below 4,096 (`piece_made`).
use Rattle.store.proofs.WordLaws.{piece_made}
use Rattle.store.proofs.cells.piece_in.Goals as goal

pub returns : goal.returns
returns c = search piece_made
