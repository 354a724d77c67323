-- `assign::call::conclude` meets its contract: the records are those of the state at the end, and a refusal zeroes.
-- Assumes nothing.
use Rattle.assign.proofs.CallLaws.{done_ready, done_out, done_count, concludes_done, concludes_refused}
use Rattle.assign.proofs.call.conclude.Goals as goal

pub emit-requires : goal.emit-requires
emit-requires c = record { ready = search done_ready; record_words_in_bounds = search done_out }

pub overflow_cast-result : goal.overflow_cast-result
overflow_cast-result c = search done_count

pub returns-in-Ok : goal.returns-in-Ok
returns-in-Ok c = search concludes_done

pub returns-in-Err : goal.returns-in-Err
returns-in-Err c = search concludes_refused
