-- `store::cells::pop_key` meets its contract: the words from the heap on are lent, and come back changed within the heap only (`key_popped`).
use Rattle.store.proofs.CellLaws.{filled, key_popped}
use Rattle.store.proofs.cells.pop_key.Goals as goal

pub pop-requires : goal.pop-requires
pop-requires c = search filled

pub returns : goal.returns
returns c = search key_popped
