-- `choice::held::next_use_row` meets its contract: after the active records from `i` on have had their say, each register is as its holder among them says; the first of them speaks last.
-- Assumes nothing.
use Prim.Native.Nat.{◌+◌}
use Rattle.choice.specs.Holding.{next_pos}
use Rattle.store.specs.StateOf.{state_of}
use Rattle.choice.proofs.HoldingLaws.{Holding}
use Rattle.choice.proofs.held.next_use_row.Given as goal

abbrev pub invariant-loop-i : goal.invariant-loop-i
invariant-loop-i l = Holding (next_pos l.mentions (state_of l.cap l.work l.counts) l.start l.fn.block) (state_of l.cap l.work l.counts) l.fn.class.first (l.fn.class.first + l.fn.class.count) l.next l.i
