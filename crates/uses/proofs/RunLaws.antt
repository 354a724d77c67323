-- A piece's runs on accepted tables, and runs of runs.
-- Assumes nothing.
use Prim.Native.Nat.{ℕ, ◌≤◌, ◌<◌}
use mathlib.Core.Bool.{Bool}
use mathlib.Core.List.{List}
use native.Mathlib.Omega.{arith}
use lib.ListN.{drop, length-take}
use Rattle.words.specs.declared.Range.{Range}
use Rattle.words.specs.Packed.{part, interval_count}
use Rattle.rules.specs.Tables.{Tables}
use Rattle.rules.specs.Accepted.{Accepted, interval}
use Rattle.rules.specs.Split.{count_of, first_of, rest_of}
use Rattle.rules.proofs.Counts.{count_most}
use Rattle.uses.specs.Runs.{Rising, Ascending, SubRange}

-- on accepted tables the mentions of a part of an interval's run rise
pub rising_of : (T : Tables) → Accepted T → (v : ℕ) → v < interval_count T.intervals → (r : Range) → SubRange r (interval T v).mentions → Rising r T.mentions
rising_of T a v l r s =
    let sound = a.intervals v l in
    let own = a.mentions v l in
    record {
      inside = omega arith;
      short = a.limits.mentions;
      pointed = λ j h. own.pointed j (omega arith, omega arith);
      ascending = λ j k h i l. own.ascending j k (omega arith, omega arith) (omega arith, omega arith) l;
    }

-- and the safepoints of a part of its run ascend
pub ascending_of : (T : Tables) → Accepted T → (v : ℕ) → v < interval_count T.intervals → (r : Range) → SubRange r (interval T v).safepoints → Ascending r T.safepoints
ascending_of T a v l r s =
    let sound = a.intervals v l in
    let own = a.safepoints v l in
    record {
      inside = omega arith;
      short = a.limits.safepoints;
      below = λ j h. omega (arith, own.inside j (omega arith, omega arith), a.limits.instructions);
      ascending = λ j k h i l. own.ascending j k (omega arith, omega arith) (omega arith, omega arith) l;
    }

-- a run lies in itself, and what lies in a part lies in the whole
pub sub_refl : (r : Range) → SubRange r r
sub_refl r = record { low = omega arith; high = omega arith }

pub sub_trans : (a b c : Range) → SubRange a b → SubRange b c → SubRange a c
sub_trans a b c s t = record { low = omega arith; high = omega arith }

-- the first n of a run lie in it, and so do the others
pub sub_first : (n : ℕ) (r big : Range) → n ≤ r.count → SubRange r big → SubRange (first_of n r) big
sub_first n r big h s = record { low = omega arith; high = omega arith }

pub sub_rest : (n : ℕ) (r big : Range) → n ≤ r.count → SubRange r big → SubRange (rest_of n r) big
sub_rest n r big h s = record { low = omega arith; high = omega arith }

-- no more stay than there are
pub staying_most : (f : ℕ → Bool) (r : Range) (l : List ℕ) → count_of f (part r l) ≤ r.count
staying_most f r l = let h = count_most f (part r l) in let k = length-take r.count (drop r.index l) in omega arith
