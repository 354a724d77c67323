-- `uses::mentions::last_use` meets its contract: on a rising run the last mention with a point at or before p has the greatest of them.
use Rattle.uses.proofs.WalkLaws.{trailing_more, trailing_found, trailing_ends}
use Rattle.uses.proofs.mentions.last_use.Goals as goal

pub returns-in-Some : goal.returns-in-Some
returns-in-Some c = search trailing_found

pub loop-n-preserved : goal.loop-n-preserved
loop-n-preserved c = search trailing_more

pub returns : goal.returns
returns c = search trailing_ends
