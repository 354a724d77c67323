-- `choice::positions::better_of` meets its contract: a register above the best takes its place, and scratch never does.
-- Assumes nothing.
use Rattle.choice.proofs.PositionLaws.{better_choice, never_scratch, same_choice}
use Rattle.choice.proofs.positions.better_of.Goals as goal
use Rattle.choice.proofs.positions.better_of.Goals.{else-e-scratch-via-then-e-scratch+else-is_above, else-e-scratch-via-else-e-scratch}

pub returns-then-is_above : goal.returns-then-is_above
returns-then-is_above c = search better_choice

pub returns-else-e-scratch : goal.returns-else-e-scratch
returns-else-e-scratch c =
    elim c.else-e-scratch.branch [ else-e-scratch-via-then-e-scratch+else-is_above w ↦ search same_choice | else-e-scratch-via-else-e-scratch w ↦ search never_scratch ]
