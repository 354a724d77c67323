-- `choice::rows::fixed_row` meets its contract: each turn fills the entry of one register more, and only that.
-- Assumes nothing.
use Rattle.activity.proofs.CursorLaws.{facing_faced}
use Rattle.choice.proofs.rows.fixed_row.Goals as goal

pub fixed_position-requires : goal.fixed_position-requires
fixed_position-requires c = search facing_faced
