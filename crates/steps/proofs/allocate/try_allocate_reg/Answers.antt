-- `steps::allocate::try_allocate_reg` meets its contract: by what is granted.
-- Assumes nothing.
use Rattle.steps.proofs.AllocateLaws.{tries_whole, tries_part, tries_none}
use Rattle.steps.proofs.allocate.try_allocate_reg.Goals as goal

pub returns-in_err-r : goal.returns-in_err-r
returns-in_err-r c = rw c.from_residual.ensures (search (tries_none, c.in_err-r.was))

pub returns-in-Whole : goal.returns-in-Whole
returns-in-Whole c = search (tries_whole, c.in_ok-r.was)

pub returns-in-Part : goal.returns-in-Part
returns-in-Part c = search (tries_part, c.in_ok-r.was)
