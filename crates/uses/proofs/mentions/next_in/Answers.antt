-- `uses::mentions::next_in` meets its contract: the Use point is before the Def point.
use Rattle.std.proofs.Common.{false}
use Rattle.uses.proofs.MentionLaws.{next_is_use, next_is_def}
use Rattle.uses.proofs.mentions.next_in.Goals as goal

pub returns-in-Some : goal.returns-in-Some
returns-in-Some c = next_is_use _ _ _ _ 0 _ false c.instruction_in-i.ensures _ c.use_point.ensures c.at_use.ensures c.in-Some.ensures

pub returns-in-None : goal.returns-in-None
returns-in-None c =
    next_is_def _ _ _ _ _ _ _ c.instruction_in-i.ensures _ c.use_point.ensures c.at_use.ensures c.in-None.ensures c.def_point.ensures c.at_def.ensures c.point_from-in-None.ensures
