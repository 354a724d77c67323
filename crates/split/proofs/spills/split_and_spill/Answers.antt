-- `split::spills::split_and_spill` meets its contract: by the last use, as the rules say.
-- Assumes nothing.
use Rattle.split.proofs.SpillLaws.{of_rising, last_some, last_none}
use Rattle.split.proofs.spills.split_and_spill.Goals as goal

pub last_use-requires : goal.last_use-requires
last_use-requires c = search of_rising

pub returns-in-Some : goal.returns-in-Some
returns-in-Some c = search last_some

pub returns-in-None : goal.returns-in-None
returns-in-None c = search last_none
