-- `steps::allocate::granted_until` meets its contract: the whole register, a part, or none.
-- Assumes nothing.
use Rattle.split.proofs.SplitLaws.{got_rising}
use Rattle.steps.proofs.AllocateLaws.{until_part, until_none}
use Rattle.steps.proofs.allocate.granted_until.Goals as goal

pub partial_place-requires : goal.partial_place-requires
partial_place-requires c = search got_rising

pub returns-in_err-at : goal.returns-in_err-at
returns-in_err-at c = rw c.from_residual.ensures (search (until_none, c.in_err-at.was))

pub returns : goal.returns
returns c = search (until_part, c.in_ok-at.was)
