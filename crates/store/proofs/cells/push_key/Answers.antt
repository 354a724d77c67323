-- `store::cells::push_key` meets its contract: the words from the heap on are lent, and come back changed within the heap only (`key_pushed`).
use Rattle.store.proofs.CellLaws.{opened, key_pushed}
use Rattle.store.proofs.cells.push_key.Goals as goal

pub push-requires : goal.push-requires
push-requires c = search opened

pub returns : goal.returns
returns c = search key_pushed
