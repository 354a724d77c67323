-- `store::cells::home_in` meets its contract: each return is a case of `home_in`.
use Rattle.store.proofs.WordLaws.{home_none, home_some}
use Rattle.store.proofs.cells.home_in.Goals as goal

pub returns-then-w-eq0 : goal.returns-then-w-eq0
returns-then-w-eq0 c = search home_none

pub returns-else-w-eq0 : goal.returns-else-w-eq0
returns-else-w-eq0 c = home_some _ c.if-w-eq0.false
