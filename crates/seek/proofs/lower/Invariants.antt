-- `seek::lower`: the part that is left shrinks to the index sought.
use Rattle.std.proofs.Common.{◌-◌}
use Rattle.seek.specs.Seek.{Seeking}
use Rattle.seek.proofs.lower.Given as goal

abbrev pub invariant-loop-from : goal.invariant-loop-from
invariant-loop-from l = Seeking l.table l.lo l.hi l.x l.from l.to

abbrev pub decreases-loop-from : goal.decreases-loop-from
decreases-loop-from l = l.to - l.from
