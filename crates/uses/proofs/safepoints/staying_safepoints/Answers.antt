-- `uses::safepoints::staying_safepoints` meets its contract: on a rising run the first that does not stay is the count.
use Rattle.uses.proofs.WalkLaws.{counting_starts, counting_more, counting_stops, counting_ends, safepoints_fall}
use Rattle.uses.proofs.safepoints.staying_safepoints.Goals as goal

pub loop-n-init : goal.loop-n-init
loop-n-init c = search (counting_starts, safepoints_fall)

pub loop-n-preserved : goal.loop-n-preserved
loop-n-preserved c = search counting_more

pub returns-then-not-use_below : goal.returns-then-not-use_below
returns-then-not-use_below c = let h = c.if-not-use_below.true in search counting_stops

pub returns : goal.returns
returns c = search counting_ends
