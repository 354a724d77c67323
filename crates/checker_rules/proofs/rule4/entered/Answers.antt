-- `rule4::entered` meets its contract: what the walk has seen shares no point of a register, and each register is free from where its last record ended.
-- Assumes nothing.
use Rattle.checker_rules.proofs.LanesLaws.{entering_ends, entering_breaks, entering_more}
use Rattle.checker_rules.proofs.OrderLaws.{left_here}
use Rattle.checker_rules.proofs.rule4.entered.Goals as goal

pub returns-then-not-enter : goal.returns-then-not-enter
returns-then-not-enter c = search entering_breaks

pub loop-turn-smaller : goal.loop-turn-smaller
loop-turn-smaller c = search left_here

pub loop-turn-preserved : goal.loop-turn-preserved
loop-turn-preserved c = search entering_more

pub returns : goal.returns
returns c = search entering_ends
