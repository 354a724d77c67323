-- `rule7::safe_in` meets its contract: the first safepoint is the one that the search finds, if its Use is not past the last point.
-- Assumes nothing.
use Rattle.checker_rules.proofs.SafeLaws.{safe_past}
use mathlib.Core.Path.{refl}
use Rattle.checker_rules.proofs.rule7.safe_in.Goals as goal

pub returns-then-l-d : goal.returns-then-l-d
returns-then-l-d c = safe_past _ _ _ _ _ _ _ _ _ _ _ c.requires.0 refl c.end-to.ensures c.lower-j.ensures _ _ c.if-to-j.false refl refl c.if-l-d.true
