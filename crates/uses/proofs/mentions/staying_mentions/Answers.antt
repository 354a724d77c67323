-- `uses::mentions::staying_mentions` meets its contract: on a rising run the first that does not stay is the count.
use Rattle.uses.proofs.WalkLaws.{counting_starts, counting_more, counting_stops, counting_ends, mentions_fall}
use Rattle.uses.proofs.mentions.staying_mentions.Goals as goal

pub loop-n-init : goal.loop-n-init
loop-n-init c = search (counting_starts, mentions_fall)

pub loop-n-preserved : goal.loop-n-preserved
loop-n-preserved c = search counting_more

pub returns-then-not-stays : goal.returns-then-not-stays
returns-then-not-stays c = let h = c.if-not-stays.true in search counting_stops

pub returns : goal.returns
returns c = search counting_ends
