-- `tables::classes::class_good` meets its contract: the counts up to the last class are the counts of all.
-- Assumes nothing.
use Rattle.std.proofs.Common.{arith}
use Rattle.tables.proofs.ClassLaws.{sum_of_all}
use Rattle.tables.proofs.classes.class_good.Goals as goal

pub returns-else-k-tables : goal.returns-else-k-tables
returns-else-k-tables c = let e = sum_of_all _ _ _ _ c.requires.0 c.if-k-tables.false c.requires.2 c.class_at-c.ensures in grind (arith, e)
