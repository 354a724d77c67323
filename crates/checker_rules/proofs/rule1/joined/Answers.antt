-- `rule1::joined` meets its contract: what the walk has seen is covered exactly once up to where each interval is expected to go on.
-- Assumes nothing.
use Rattle.checker_rules.proofs.TilesLaws.{joining_breaks, joining_more}
use Rattle.checker_rules.proofs.OrderLaws.{left_here}
use Rattle.checker_rules.proofs.rule1.joined.Goals as goal

pub returns-then-expect-v : goal.returns-then-expect-v
returns-then-expect-v c = search joining_breaks

pub loop-turn-smaller : goal.loop-turn-smaller
loop-turn-smaller c = search left_here

pub loop-turn-preserved : goal.loop-turn-preserved
loop-turn-preserved c = search joining_more
