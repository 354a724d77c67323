-- `choice::positions::furthest_of` meets its contract: a turn weighs four registers, so that what is left of the scan, with the best so far, is the whole scan; from a best at never nothing is left.
-- Assumes nothing.
use Prim.Native.Nat.{◌-◌}
use Rattle.choice.proofs.FurthestLaws.{Scanned}
use Rattle.choice.proofs.positions.furthest_of.Given as goal

abbrev pub invariant-loop-r : goal.invariant-loop-r
invariant-loop-r l = Scanned l.fn.row l.fn.scratch l.fn.first l.fn.count l.stop l.r l.best

abbrev pub decreases-loop-r : goal.decreases-loop-r
decreases-loop-r l = l.stop - l.r
