-- `choice::positions::furthest_of` meets its contract: a turn weighs four registers, so that what is left of the scan, with the best so far, is the whole scan; from a best at never nothing is left.
-- Assumes nothing.
use Rattle.choice.proofs.FurthestLaws.{scanned_ends}
use Rattle.choice.proofs.EntryLaws.{scanned_more, scanned_stops}
use Rattle.choice.proofs.positions.furthest_of.Goals as goal

pub returns-then-is_never : goal.returns-then-is_never
returns-then-is_never c = search scanned_stops

pub loop-r-preserved : goal.loop-r-preserved
loop-r-preserved c = search scanned_more

pub returns : goal.returns
returns c = search scanned_ends
