-- `choice::held::open_row` meets its contract: each turn fills the entry of one register more.
-- Assumes nothing.
use Rattle.choice.proofs.HoldingLaws.{Filled, fixed_at}
use Rattle.choice.proofs.held.open_row.Given as goal

abbrev pub invariant-loop-r : goal.invariant-loop-r
invariant-loop-r l = Filled (fixed_at l.registers l.fragments l.start l.end) l.fn.class.first l.fn.class.count l.held l.row l.r
