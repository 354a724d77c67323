-- `rule1::joined` meets its contract: what the walk has seen is covered exactly once up to where each interval is expected to go on.
-- Assumes nothing.
use Rattle.checker_rules.proofs.TilesLaws.{Joining}
use Rattle.checker_rules.proofs.OrderLaws.{left}
use Rattle.checker_rules.proofs.rule1.joined.Given as goal

abbrev pub invariant-loop-turn : goal.invariant-loop-turn
invariant-loop-turn l = Joining l.order.records.words.now l.order.records.count l.intervals l.expect l.turn

abbrev pub decreases-loop-turn : goal.decreases-loop-turn
decreases-loop-turn l = left l.order.records.words.now l.turn
