-- `choice::positions::furthest_in` meets its contract: a turn weighs one entry, so that what is left of the scan, with the best so far, is the whole scan.
use borrow.Author.Rules.{rules}
use Rattle.choice.proofs.EntryLaws.{reading_more, reading_ends}
use Rattle.choice.proofs.positions.furthest_in.Goals as goal

pub loop-e-preserved : goal.loop-e-preserved
loop-e-preserved c = search (rules, reading_more)

pub returns : goal.returns
returns c = search reading_ends
