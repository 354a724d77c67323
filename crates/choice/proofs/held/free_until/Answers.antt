-- `choice::held::free_until` meets its contract: what the fragments say, blocked where an active piece holds the register, is free-until.
-- Assumes nothing.
use Rattle.choice.proofs.HoldingLaws.{free_row, free_unfixed}
use Rattle.choice.proofs.held.free_until.Goals as goal

pub returns-then-none_set : goal.returns-then-none_set
returns-then-none_set c = search free_unfixed

pub returns : goal.returns
returns c = search free_row
