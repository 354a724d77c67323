-- `rule6::settled` meets its contract: the tables hold what the records passed so far say.
-- Assumes nothing.
use Rattle.checker_rules.specs.Slots.{Placed}
use Rattle.checker_rules.proofs.rule6.settled.Given as goal

abbrev pub invariant-loop-k : goal.invariant-loop-k
invariant-loop-k l = Placed l.seats.records.words.now l.k l.seats.intervals.now l.slots l.owner l.top
