-- `rule4::entered` meets its contract: what the walk has seen shares no point of a register, and each register is free from where its last record ended.
-- Assumes nothing.
use Rattle.checker_rules.proofs.LanesLaws.{Entering}
use Rattle.checker_rules.proofs.OrderLaws.{left}
use Rattle.checker_rules.proofs.rule4.entered.Given as goal

abbrev pub invariant-loop-turn : goal.invariant-loop-turn
invariant-loop-turn l = Entering l.order.records.words.now l.order.records.count l.free l.turn

abbrev pub decreases-loop-turn : goal.decreases-loop-turn
decreases-loop-turn l = left l.order.records.words.now l.turn
