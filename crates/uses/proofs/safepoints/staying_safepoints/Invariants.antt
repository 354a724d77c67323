-- `uses::safepoints::staying_safepoints` meets its contract: on a rising run the first that does not stay is the count.
use Rattle.uses.specs.Safepoints.{use_below}
use Rattle.uses.proofs.WalkLaws.{Counting}
use Rattle.uses.proofs.safepoints.staying_safepoints.Given as goal

abbrev pub invariant-loop-n : goal.invariant-loop-n
invariant-loop-n l = Counting (use_below l.p) l.range l.safepoints l.n
