-- `assign::call::assign` meets its contract: the strategy, the checks, then the run; what it answers after the checks is none of 2 to 9.
-- Assumes nothing.
use Rattle.words.proofs.Residual.{passed}
use Rattle.assign.proofs.CallLaws.{unknown, turned_away, lets_in, let_in}
use Rattle.assign.proofs.call.assign.Goals as goal

pub returns-in_err-strategy : goal.returns-in_err-strategy
returns-in_err-strategy c = rw (passed _ _ c.from_residual.ensures.1) (search (unknown, c.in_err-strategy.ensures))

pub returns-in-Err : goal.returns-in-Err
returns-in-Err c = search (turned_away, c.in_ok-strategy.ensures, c.capacity_of-cap.ensures, c.check.ensures)

pub assign_checked-requires : goal.assign_checked-requires
assign_checked-requires c = lets_in _ _ _ _ _ c.capacity_of-cap.ensures c.check.ensures c.in_default.is

pub returns : goal.returns
returns c = let_in _ _ _ _ _ c.in_ok-strategy.ensures _ c.capacity_of-cap.ensures _ c.check.ensures _ _ _ c.in_default.is c.assign_checked.ensures
