-- Laws of the walks that the checks at entry make: one turn of a walk, and what is found in all.
-- Assumes nothing.
use Rattle.std.specs.Prelude.{Option, None, Some}
use Prim.Native.Nat.{ℕ, suc, ◌+◌, ◌-◌, ◌≤◌, ◌<◌}
use mathlib.Core.Path.{◌≡◌, refl}
use mathlib.Core.Bool.{Bool, true, false}
use native.Mathlib.Omega.{arith}
use native.Mathlib.Numerals.{add-one}
use Rattle.rules.specs.Tables.{Tables}
use Rattle.std.specs.Option.{option_or}
use lib.ListN.{length}
use Rattle.words.specs.Packed.{interval_count}
use Rattle.words.specs.declared.Range.{Range}
use Rattle.rules.specs.Sound.{or_else, first, bad_unless, leftovers, range_end, interval_good, register_good, bad_interval, bad_fixed}

-- what f finds first from i to hi: past an entry where it finds none,
pub first_more : (f : ℕ → Option ℕ) (i hi : ℕ) → i < hi → f i ≡ None → first f i (hi - i) ≡ first f (i + 1) (hi - (i + 1))
unfolding first
first_more f i hi h e = let d : hi - i ≡ suc (hi - (i + 1)) = omega arith in rw (d, e, add-one i)

-- at the first where it finds one,
pub first_here : (f : ℕ → Option ℕ) (i hi k : ℕ) → i < hi → f i ≡ Some k → first f i (hi - i) ≡ Some k
unfolding first
first_here f i hi k h e = let d : hi - i ≡ suc (hi - (i + 1)) = omega arith in rw (d, e)

-- and at the end
pub first_none : (f : ℕ → Option ℕ) (i hi : ℕ) → hi ≤ i → first f i (hi - i) ≡ None
unfolding first
first_none f i hi h = let d : hi - i ≡ 0 = omega arith in rw d

-- the same of the entries that fail a test t
module _ (t : ℕ → Bool) (i hi : ℕ) (h : i < hi) where
  pub bad_more : true ≡ t i → first (λ k. bad_unless (t k) k) i (hi - i) ≡ first (λ k. bad_unless (t k) k) (i + 1) (hi - (i + 1))
  bad_more e = first_more (λ k. bad_unless (t k) k) i hi h (rw (← e))

  pub bad_here : false ≡ t i → first (λ k. bad_unless (t k) k) i (hi - i) ≡ Some i
  bad_here e = first_here (λ k. bad_unless (t k) k) i hi i h (rw (← e))

-- a walk of a range to where it ends, and of a whole table
pub find_in : (f : ℕ → Option ℕ) (q : Range) (s e : ℕ) (r : Option ℕ) → s ≡ q.index → e ≡ range_end q → r ≡ first f s (e - s) → r ≡ first f q.index q.count
find_in f q s e r h k g = let d : e - s ≡ q.count = omega arith in rw (d, h) at g

pub find_all : (f : ℕ → Option ℕ) (n m : ℕ) (r : Option ℕ) → n ≡ m → r ≡ first f 0 (n - 0) → r ≡ first f 0 m
find_all f n m r h g = let d : n - 0 ≡ m = omega arith in rw d at g

-- the first of two finds is the library's `or`
pub either : (a b : Option ℕ) → option_or a b ≡ or_else a b
either None b = refl
either (Some k) b = refl

both : (a b c : Option ℕ) → option_or (option_or a b) c ≡ or_else a (or_else b c)
both None b c = either b c
both (Some k) b c = refl

-- checks 5 and 8: the first bad entry, else what is left over
pub intervals_found : (T : Tables) (n : ℕ) (a b c d r : Option ℕ) → n ≡ interval_count T.intervals → a ≡ first (λ v. bad_unless (interval_good T v) v) 0 (n - 0)
    → b ≡ leftovers n (length T.mentions) → c ≡ leftovers n (length T.safepoints) → d ≡ option_or a b → r ≡ option_or d c → r ≡ bad_interval T
unfolding bad_interval
intervals_found T n a b c d r e f g h k m = rw (← (find_all _ n _ a e f), ← e, ← g, ← h, ← (both a b c), ← k) m

pub fixed_found : (T : Tables) (a b r : Option ℕ) → a ≡ first (λ r. bad_unless (register_good T r) r) 0 (length T.registers - 0)
    → b ≡ leftovers (length T.registers) (length T.fragments) → r ≡ option_or a b → r ≡ bad_fixed T
unfolding bad_fixed
fixed_found T a b r e f g = rw (← (find_all _ _ _ a refl e), ← f, ← (either a b)) g
