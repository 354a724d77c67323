-- `uses::places::partial_place` meets its contract: the mode says which place, of the last use or the start.
use Rattle.uses.proofs.PlaceLaws.{partial_off, partial_end, partial_use}
use Rattle.uses.proofs.places.partial_place.Goals as goal

pub returns-else-mode : goal.returns-else-mode
returns-else-mode c = search partial_off

pub returns-then-mode-2 : goal.returns-then-mode-2
returns-then-mode-2 c = search partial_end

pub returns-else-mode-2 : goal.returns-else-mode-2
returns-else-mode-2 c = search partial_use
