-- `activity::update` meets its contract: each turn moves the cursor of one register of the class, and the cursors that are still to move stand among their fragments.
use Rattle.activity.proofs.UpdateLaws.{updating_none, updating_more, updating_ends}
use Rattle.activity.proofs.update.Goals as goal

pub returns-then-none_set : goal.returns-then-none_set
returns-then-none_set c = search updating_none

pub loop-r-preserved : goal.loop-r-preserved
loop-r-preserved c = search updating_more

pub returns : goal.returns
returns c = search updating_ends
