-- `tables::classes::bad_class` meets its contract: the walk keeps the sum of the counts, and has found nothing so far.
-- Assumes nothing.
use Rattle.std.proofs.Common.{◌≡◌, ◌-◌, length}
use Rattle.rules.specs.Lent.{tables_of}
use Rattle.rules.specs.Sound.{first, bad_unless, class_good}
use Rattle.tables.specs.Entries.{Summed}
use Rattle.tables.proofs.classes.bad_class.Given as goal

abbrev pub invariant-loop-k : goal.invariant-loop-k
invariant-loop-k l =
    record {
      summed : Summed l.tables.classes.now l.k l.sum;
      clean : first (λ k. bad_unless (class_good (tables_of l.tables) k) k) 0 (length l.tables.classes.now) ≡ first (λ k. bad_unless (class_good (tables_of l.tables) k) k) l.k (length l.tables.classes.now - l.k);
    }
