-- `uses::mentions::last_use` meets its contract: on a rising run the last mention with a point at or before p has the greatest of them.
use Rattle.uses.proofs.WalkLaws.{Trailing}
use Rattle.uses.proofs.mentions.last_use.Given as goal

abbrev pub invariant-loop-n : goal.invariant-loop-n
invariant-loop-n l = Trailing l.fn.range l.mentions l.p l.n
