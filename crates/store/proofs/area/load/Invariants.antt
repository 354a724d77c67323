-- `store::area::load` meets its contract. The invariant: the state is the one where the first k of the records are queued.
use Rattle.words.specs.Packed.{interval_count}
use Rattle.store.proofs.AreaLaws.{Queueing}
use Rattle.store.proofs.area.load.Given as goal

abbrev pub invariant-loop-k : goal.invariant-loop-k
invariant-loop-k l = Queueing l.cap l.intervals l.initial.work l.work l.counts (interval_count l.intervals) l.k
