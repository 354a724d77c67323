-- `uses::mentions::next_use` meets its contract: on a rising run the first mention with a point at or after p has the least of them.
use Rattle.uses.proofs.WalkLaws.{seeking_more, seeking_found, seeking_ends}
use Rattle.uses.proofs.mentions.next_use.Goals as goal

pub returns-in-Some : goal.returns-in-Some
returns-in-Some c = search seeking_found

pub loop-n-preserved : goal.loop-n-preserved
loop-n-preserved c = search seeking_more

pub returns : goal.returns
returns c = search seeking_ends
