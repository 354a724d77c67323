-- `steps::taking::cut_before` meets its contract: a fragment start in the piece is cut at, and no other.
-- Assumes nothing.
use Rattle.steps.proofs.TakingLaws.{uncut}
use Rattle.steps.proofs.taking.cut_before.Goals as goal

pub returns-in-Blocked : goal.returns-in-Blocked
returns-in-Blocked c = search uncut
