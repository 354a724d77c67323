-- `assign::fronts::front` meets its contract: the class is in the table.
-- Assumes nothing.
use Rattle.assign.proofs.FrontLaws.{front_class, fronts}
use Rattle.assign.proofs.fronts.front.Goals as goal

pub class_at-requires : goal.class_at-requires
class_at-requires c = search front_class

pub returns : goal.returns
returns c = search fronts
