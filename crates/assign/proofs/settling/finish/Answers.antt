-- `assign::settling::finish` meets its contract: step 5 where steps 2 to 4 went on, else nothing.
-- Assumes nothing.
use Rattle.words.proofs.Residual.{passed}
use Rattle.assign.proofs.SettleLaws.{finish_on, finish_off, finish_held}
use Rattle.assign.proofs.settling.finish.Goals as goal

pub maybe_handle_safepoints-requires : goal.maybe_handle_safepoints-requires
maybe_handle_safepoints-requires c = search (finish_held, c.in_ok-after.was)

pub returns : goal.returns
returns c = search (finish_on, c.in_ok-after.was)

pub returns-in_err-after : goal.returns-in_err-after
returns-in_err-after c = rw (passed _ _ c.from_residual.ensures.1) (search (finish_off, c.in_err-after.was))
