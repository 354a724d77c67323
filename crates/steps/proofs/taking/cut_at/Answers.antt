-- `steps::taking::cut_at` meets its contract: a place to split, or split-and-spill at b.
-- Assumes nothing.
use Rattle.steps.proofs.TakingLaws.{cut_part, cut_spill}
use Rattle.steps.proofs.taking.cut_at.Goals as goal

pub returns-in-Some : goal.returns-in-Some
returns-in-Some c = search cut_part

pub returns-in-None : goal.returns-in-None
returns-in-None c = search cut_spill
