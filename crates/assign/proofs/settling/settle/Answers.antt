-- `assign::settling::settle` meets its contract: step 5 follows where a register was taken and the piece looks at its safepoints.
-- Assumes nothing.
use Rattle.assign.proofs.SettleLaws.{takes_parting, took_held, took_looking, settle_taken, settle_past, settle_none}
use borrow.Author.Rules.{rules}
use Rattle.assign.proofs.settling.settle.Goals as goal

pub take-requires : goal.take-requires
take-requires c = record { parting = search takes_parting; count_bound = search rules }

pub returns-in_err-taken : goal.returns-in_err-taken
returns-in_err-taken c = rw c.from_residual.ensures (settle_none _ _ _ _ _ _ _ _ _ _ c.take.ensures c.in_err-taken.was)

pub past-requires : goal.past-requires
past-requires c = took_looking _ _ _ _ _ _ _ _ c.args.row _ c.take.ensures _ c.requires c.in_ok-taken.was

pub returns-then-past : goal.returns-then-past
returns-then-past c = settle_past _ _ _ _ _ _ _ _ _ _ c.take.ensures _ _ c.requires c.in_ok-taken.was c.past.ensures (search rules)

pub finish-requires : goal.finish-requires
finish-requires c = took_held _ _ _ _ _ _ _ _ c.args.row _ c.take.ensures _ c.requires c.in_ok-taken.was

pub returns : goal.returns
returns c = settle_taken _ _ _ _ _ _ _ _ _ _ c.take.ensures _ _ _ c.in_ok-taken.was c.finish.ensures
