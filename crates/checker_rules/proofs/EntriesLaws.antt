-- What is read is the entry.
-- Assumes nothing.
use Prim.Native.Nat.{ℕ}
use mathlib.Core.List.{List}
use mathlib.Core.Path.{◌≡◌, refl}
use native.Mathlib.Omega.{arith}
use Rattle.words.specs.declared.Interval.{Interval}
use Rattle.words.specs.declared.Record.{Record}
use Rattle.words.specs.Packed.{record_at, interval_at}
use Rattle.checker_rules.specs.Entries.{kind_of, interval_of, spare_of, number_of, first_of, last_of, class_of, reference_of, size_at, start_of, end_of, mentions_from, mentions_to, safepoints_from, safepoints_to, Shown, Given}

-- record k, read from its two words
pub shown : (ws : List ℕ) (k : ℕ) (r : Record) → r ≡ record_at ws k → Shown ws k r
unfolding kind_of interval_of spare_of number_of first_of last_of
shown ws k r e = rw e record { kind = refl; interval = refl; spare = refl; number = refl; first = refl; last = refl }

-- interval v, read from its four words
pub given : (is : List ℕ) (v : ℕ) (i : Interval) → i ≡ interval_at is v → Given is v i
unfolding class_of reference_of size_at start_of end_of mentions_from mentions_to safepoints_from safepoints_to
given is v i e =
    rw e
    record {
      class = refl;
      reference = refl;
      size = refl;
      log = omega arith;
      start = refl;
      end = refl;
      mentions = refl;
      mentioned = refl;
      safepoints = refl;
      safe = refl;
    }
