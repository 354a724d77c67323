-- `store::area::emit` meets its contract. The invariant: the first k records stand packed, the rest is as it was.
use Rattle.store.specs.StateOf.{state_of}
use Rattle.store.proofs.AreaLaws.{Emitted}
use Rattle.store.proofs.area.emit.Given as goal

abbrev pub invariant-loop-k : goal.invariant-loop-k
invariant-loop-k l = Emitted (state_of l.cap l.work l.counts).pieces l.initial.out l.out l.counts.records l.k
