-- `assign::settling::past` meets its contract: a piece that does not look, or a run that is refused.
-- Assumes nothing.
use Rattle.assign.proofs.SettleLaws.{look_ready, look_inside, look_rows, past_on, past_off}
use Rattle.assign.proofs.settling.past.Goals as goal

pub looks_at-requires : goal.looks_at-requires
looks_at-requires c = record { ready = search look_ready; k_lt_records = search look_inside; intervals_value = search look_rows }

pub returns-in-Ok : goal.returns-in-Ok
returns-in-Ok c = search past_on

pub returns-in-Err : goal.returns-in-Err
returns-in-Err c = search past_off
