-- `safepoints::maybe_handle_safepoints` meets its contract: a piece that looks goes by its first safepoint, any other stays.
-- Assumes nothing.
use Rattle.safepoints.proofs.SafepointLaws.{looked, passed}
use Rattle.safepoints.proofs.maybe_handle_safepoints.Goals as goal

pub returns-then-looks_at : goal.returns-then-looks_at
returns-then-looks_at c = search looked

pub returns : goal.returns
returns c = search passed
