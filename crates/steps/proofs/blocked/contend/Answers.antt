-- `steps::blocked::contend` meets its contract: the class is read; 11 where it has no register but scratch.
-- Assumes nothing.
use Rattle.steps.proofs.BlockedLaws.{has_class, scratch_alone, more_registers}
use Rattle.steps.proofs.blocked.contend.Goals as goal

pub class_of_record-kind-requires-clause-has_class : goal.class_of_record-kind-requires-clause-has_class
class_of_record-kind-requires-clause-has_class c = search has_class

pub returns-then-kind-le1 : goal.returns-then-kind-le1
returns-then-kind-le1 c = search scratch_alone

pub returns : goal.returns
returns c = search more_registers
