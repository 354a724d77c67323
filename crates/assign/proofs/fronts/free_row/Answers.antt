-- `assign::fronts::free_row` meets its contract: the row of the piece that is read, which is the record's.
-- Assumes nothing.
use Rattle.assign.proofs.FrontLaws.{row_faces, row_free}
use borrow.Author.Rules.{rules}
use Rattle.assign.proofs.fronts.free_row.Goals as goal

pub free_until-requires : goal.free_until-requires
free_until-requires c = record { ready = search rules; facing = search row_faces }

pub returns : goal.returns
returns c = search row_free
