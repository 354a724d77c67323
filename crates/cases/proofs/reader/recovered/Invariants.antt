-- Each line that is passed over leads on.
use Rattle.std.proofs.Common.{length, ◌-◌}
use Rattle.cases.proofs.reader.recovered.Given as goal

abbrev pub decreases-loop-at : goal.decreases-loop-at
decreases-loop-at l = length l.text - l.at.at
