-- `store::area::fill` meets its contract. The invariant: the first k pieces are the whole intervals, the first k homes without a slot.
use Rattle.store.proofs.AreaLaws.{Filling}
use Rattle.store.proofs.area.fill.Given as goal

abbrev pub invariant-loop-k : goal.invariant-loop-k
invariant-loop-k l = Filling l.cap l.intervals l.initial.work l.work l.k
