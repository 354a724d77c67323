-- `choice::rows::fixed_row` meets its contract: each turn fills the entry of one register more, and only that.
-- Assumes nothing.
use Rattle.choice.proofs.RowLaws.{Filling}
use Rattle.choice.proofs.rows.fixed_row.Given as goal

abbrev pub invariant-loop-r : goal.invariant-loop-r
invariant-loop-r l = Filling l.registers l.fragments l.fn.class.first l.fn.class.count l.start l.end l.initial.row l.row l.r
