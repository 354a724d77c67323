-- `activity::ended::moved_up` meets its contract: the piece that was read decides whether its record is stored again at `kept`.
use Rattle.activity.proofs.EndedLaws.{up_moved, not_moved}
use Rattle.activity.proofs.ended.moved_up.Goals as goal

pub returns-then-stays : goal.returns-then-stays
returns-then-stays c = search up_moved

pub returns-else-stays : goal.returns-else-stays
returns-else-stays c = search not_moved
