-- `uses::mentions::last_in` meets its contract: the Use point is before the Def point, and where it is after p there is none.
use Rattle.std.proofs.Common.{false}
use Rattle.uses.proofs.MentionLaws.{last_is_after, last_is_def, last_is_use}
use Rattle.uses.proofs.mentions.last_in.Goals as goal

pub returns-then-p-use_at : goal.returns-then-p-use_at
returns-then-p-use_at c = search last_is_after

pub returns-in-Some : goal.returns-in-Some
returns-in-Some c = last_is_def _ _ _ 0 _ false _ c.instruction_in-i.ensures _ c.def_point.ensures c.at_def.ensures c.in-Some.ensures

pub returns-in-None : goal.returns-in-None
returns-in-None c =
    last_is_use _ _ _ _ _ _ _ c.instruction_in-i.ensures _ c.def_point.ensures c.at_def.ensures c.in-None.ensures c.use_point-use_at.ensures c.at_use.ensures c.point_until-in-None.ensures
