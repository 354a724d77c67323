-- Each turn moves on in the text.
use Rattle.std.proofs.Common.{length, ◌-◌}
use Rattle.turns.proofs.each.all.Given as goal

abbrev pub decreases-loop-next : goal.decreases-loop-next
decreases-loop-next l = length l.text - l.c.at
