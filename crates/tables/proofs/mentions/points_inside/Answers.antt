-- `tables::mentions::points_inside` meets its contract: a mention has its Use point, its Def point, or both.
-- Assumes nothing.
use Rattle.tables.proofs.EntryLaws.{points_inside}
use Rattle.tables.proofs.mentions.points_inside.Goals as goal

pub returns : goal.returns
returns c = search points_inside
