-- A line that is empty leads to the next, which starts later.
use Rattle.std.proofs.Common.{length, ◌-◌, ◌≤◌}
use Rattle.cases.proofs.scan.next_line.Given as goal

abbrev pub invariant-loop-at : goal.invariant-loop-at
invariant-loop-at l = l.initial.at.at ≤ l.at.at

abbrev pub decreases-loop-at : goal.decreases-loop-at
decreases-loop-at l = length l.text - l.at.at
