-- `activity::moved_past` meets its contract: what is left of the move from `f` is the whole move from `from`.
use Rattle.activity.proofs.UpdateLaws.{moving_more, moving_found, moving_ends}
use Rattle.activity.proofs.moved_past.Goals as goal

pub returns-then-start-fragment_in : goal.returns-then-start-fragment_in
returns-then-start-fragment_in c = search moving_found

pub loop-f-preserved : goal.loop-f-preserved
loop-f-preserved c = search moving_more

pub returns : goal.returns
returns c = search moving_ends
