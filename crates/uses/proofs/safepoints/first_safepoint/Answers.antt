-- `uses::safepoints::first_safepoint` meets its contract: a run that is not empty has its first entry.
use Rattle.uses.proofs.SafepointLaws.{first_is}
use Rattle.uses.proofs.safepoints.first_safepoint.Goals as goal

pub returns : goal.returns
returns c = search first_is
