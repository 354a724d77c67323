-- `uses::mentions::stays` meets its contract: the first point of a mention decides.
use Rattle.uses.proofs.MentionLaws.{stays_use, stays_def, stays_none}
use Rattle.uses.proofs.mentions.stays.Goals as goal

pub returns-then-at_use : goal.returns-then-at_use
returns-then-at_use c = search stays_use

pub returns-then-at_def : goal.returns-then-at_def
returns-then-at_def c = search stays_def

pub returns-else-at_def : goal.returns-else-at_def
returns-else-at_def c = search stays_none
