-- `steps::allocate::granted` meets its contract: by the choice and its position.
-- Assumes nothing.
use Rattle.steps.proofs.AllocateLaws.{grant_none, grant_blocked, grant_point, grant_never}
use Rattle.steps.proofs.allocate.granted.Goals as goal

pub returns-in_err-longest : goal.returns-in_err-longest
returns-in_err-longest c = rw c.from_residual.ensures (search (grant_none, c.in_err-longest.was))

pub returns-in-Blocked : goal.returns-in-Blocked
returns-in-Blocked c = search (grant_blocked, c.in_ok-longest.was)

pub returns-in-At : goal.returns-in-At
returns-in-At c = search (grant_point, c.in_ok-longest.was)

pub returns-in-Never : goal.returns-in-Never
returns-in-Never c = search (grant_never, c.in_ok-longest.was)
