-- `steps::taking::spill_holder` meets its contract: the holder, if there is one, is spilled by split-and-spill.
-- Assumes nothing.
use Rattle.steps.proofs.TakingLaws.{unheld, robbed}
use Rattle.steps.proofs.taking.spill_holder.Goals as goal

pub returns-in-None : goal.returns-in-None
returns-in-None c = search unheld

pub returns-in-Some : goal.returns-in-Some
returns-in-Some c = search robbed
