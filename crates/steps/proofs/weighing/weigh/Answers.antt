-- `steps::weighing::weigh` meets its contract: the furthest position is compared with the first use.
-- Assumes nothing.
use Rattle.steps.proofs.WeighingLaws.{all_blocked, weighed_own, weighed_steal}
use Rattle.steps.proofs.weighing.weigh.Goals as goal
use Rattle.steps.proofs.weighing.weigh.Goals.{in_default-via-in-Some+else-lt, in_default-via-in_default}

pub returns-in_default : goal.returns-in_default
returns-in_default c =
    elim c.in_default.branch [
      | in_default-via-in-Some+else-lt w ↦ let i = rw w.in-Some.furthest-is at w.lt.ensures in search weighed_own
      | in_default-via-in_default w ↦ search all_blocked
    ]

pub returns-in-Some : goal.returns-in-Some
returns-in-Some c = let i = rw c.in-Some.furthest-is at c.lt.ensures in let d = rw c.in-Some.furthest-is at c.steal.ensures in search weighed_steal
