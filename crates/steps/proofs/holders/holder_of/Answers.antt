-- `steps::holders::holder_of` meets its contract: what is left of the walk holds the answer, and the first record in the register is it.
-- Assumes nothing.
use Rattle.steps.proofs.WeighingLaws.{seeking_more, seeking_found, seeking_ends}
use Rattle.steps.proofs.holders.holder_of.Goals as goal

pub returns-then-eq : goal.returns-then-eq
returns-then-eq c = search seeking_found

pub loop-i-preserved : goal.loop-i-preserved
loop-i-preserved c = search seeking_more

pub returns : goal.returns
returns c = search seeking_ends
