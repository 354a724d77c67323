-- `uses::mentions::is_mention_point` meets its contract: p is a point exactly if it is the next use from p.
use Rattle.uses.proofs.PointLaws.{point_equal}
use Rattle.uses.proofs.mentions.is_mention_point.Goals as goal

pub returns : goal.returns
returns c = search point_equal
