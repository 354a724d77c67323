-- `uses::mentions::next_use` meets its contract: on a rising run the first mention with a point at or after p has the least of them.
use Rattle.uses.proofs.WalkLaws.{Seeking}
use Rattle.uses.proofs.mentions.next_use.Given as goal

abbrev pub invariant-loop-n : goal.invariant-loop-n
invariant-loop-n l = Seeking l.fn.range l.mentions l.p l.n
