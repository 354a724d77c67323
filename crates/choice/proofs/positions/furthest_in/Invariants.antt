-- `choice::positions::furthest_in`: what is left of the scan, with the best so far, is the whole scan.
use Rattle.std.proofs.Common.{length}
use Rattle.choice.proofs.EntryLaws.{Reading}
use Rattle.choice.proofs.positions.furthest_in.Given as goal

abbrev pub invariant-loop-e : goal.invariant-loop-e
invariant-loop-e l = Reading l.entries l.scratch (length l.entries) l.initial.best l.best l.e-index
