-- `activity::fixed::fixed_position` meets its contract: the fragment at the cursor is the first that does not end before the start, so it alone decides.
use Rattle.activity.proofs.FixedLaws.{says_none, says_blocked, says_at, says_never}
use Rattle.activity.proofs.fixed.fixed_position.Goals as goal

pub returns-then-stop-at : goal.returns-then-stop-at
returns-then-stop-at c = search says_none

pub returns-then-fragment-start : goal.returns-then-fragment-start
returns-then-fragment-start c = search says_blocked

pub returns-then-fragment-end : goal.returns-then-fragment-end
returns-then-fragment-end c = search says_at

pub returns : goal.returns
returns c = search says_never
