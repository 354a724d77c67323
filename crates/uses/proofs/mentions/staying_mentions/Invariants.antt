-- `uses::mentions::staying_mentions` meets its contract: on a rising run the first that does not stay is the count.
use Rattle.uses.specs.Mentions.{stays_below}
use Rattle.uses.proofs.WalkLaws.{Counting}
use Rattle.uses.proofs.mentions.staying_mentions.Given as goal

abbrev pub invariant-loop-n : goal.invariant-loop-n
invariant-loop-n l = Counting (stays_below l.p) l.range l.mentions l.n
