-- `steps::blocked::steal_or_spill` meets its contract: the block row is the class's, and what is weighed over it is what the rules weigh.
-- Assumes nothing.
use Rattle.steps.proofs.BlockedLaws.{weighed}
use Rattle.steps.proofs.blocked.steal_or_spill.Goals as goal

pub returns : goal.returns
returns c = search weighed
