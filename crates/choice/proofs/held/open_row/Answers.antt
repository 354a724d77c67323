-- `choice::held::open_row` meets its contract: each turn fills the entry of one register more.
-- Assumes nothing.
use Rattle.activity.proofs.CursorLaws.{facing_faced}
use Rattle.choice.proofs.HoldingLaws.{opening_more}
use Rattle.choice.proofs.held.open_row.Goals as goal

pub fixed_position-p-requires : goal.fixed_position-p-requires
fixed_position-p-requires c = search facing_faced

pub loop-r-preserved : goal.loop-r-preserved
loop-r-preserved c = search opening_more
