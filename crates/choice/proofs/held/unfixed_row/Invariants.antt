-- `choice::held::unfixed_row` meets its contract: each turn fills the entry of one register more.
-- Assumes nothing.
use Rattle.choice.proofs.HoldingLaws.{Filled, never_at}
use Rattle.choice.proofs.held.unfixed_row.Given as goal

abbrev pub invariant-loop-r : goal.invariant-loop-r
invariant-loop-r l = Filled never_at l.fn.class.first l.fn.class.count l.held l.row l.r
