-- `activity::fresh` meets its contract: each turn sets the cursor of one register more.
use Rattle.activity.proofs.UpdateLaws.{setting_more, setting_ends}
use Rattle.activity.proofs.fresh.Goals as goal

pub loop-r-preserved : goal.loop-r-preserved
loop-r-preserved c = search setting_more

pub returns : goal.returns
returns c = search setting_ends
