-- `safepoints::at_first_safepoint` meets its contract: the head of the run of safepoints decides.
-- Assumes nothing.
use Rattle.safepoints.proofs.SafepointLaws.{of_ascending, first_below, first_none, first_some}
use Rattle.safepoints.proofs.at_first_safepoint.Goals as goal

pub first_safepoint-requires : goal.first_safepoint-requires
first_safepoint-requires c = search of_ascending

pub returns-in_default : goal.returns-in_default
returns-in_default c = search first_none

pub keep_or_spill-requires-clause-x_bound : goal.keep_or_spill-requires-clause-x_bound
keep_or_spill-requires-clause-x_bound c = search first_below

pub returns : goal.returns
returns c = search first_some
