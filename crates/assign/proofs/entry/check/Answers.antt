-- `assign::entry::check` meets its contract: the tables first, then the room.
-- Assumes nothing.
use Rattle.words.proofs.Residual.{passed_on}
use Rattle.assign.proofs.CallLaws.{check_refused, check_passed}
use Rattle.assign.proofs.entry.check.Goals as goal

pub returns-in_err-check_tables : goal.returns-in_err-check_tables
returns-in_err-check_tables c = passed_on _ _ _ c.from_residual.ensures.1 (search (check_refused, c.in_err-check_tables.was))

pub returns : goal.returns
returns c = check_passed _ _ _ _ c.check_tables.ensures _ c.in_ok-check_tables.was (rw (← c.interval_count.ensures) c.check_room.ensures)
