-- Where a split falls: the picks and the partial split, case by case.
-- Assumes nothing.
use Rattle.std.specs.Prelude.{Option, None, Some, SomeIff}
use Rattle.std.specs.Option.{unwrap_or}
use Prim.Native.Nat.{ℕ, zero, suc, ◌-◌, ◌≤◌}
use mathlib.Core.Path.{◌≡◌, refl, ap}
use mathlib.Core.Bool.{true, false}
use mathlib.Core.List.{List}
use native.Mathlib.Omega.{arith}
use Rattle.words.specs.Points.{previous, previous_of}
use Rattle.rules.specs.declared.Mode.{Mode}
use Rattle.rules.specs.Uses.{last_use}
use Rattle.rules.specs.Split.{or_start, near_end, near_use, partial_place}

-- what a checked subtraction gives
pub one_before : (p : ℕ) (r : Option ℕ) → SomeIff r (1 ≤ p) (p - 1) → r ≡ previous p
one_before zero None h = refl
one_before zero (Some x) h = absurd (omega (arith, h.0))
one_before (suc p) None h = absurd (h (omega arith))
one_before (suc p) (Some x) h = ap Some (omega (arith, h.1))

pub two_before : (p : ℕ) (r : Option ℕ) → SomeIff r (2 ≤ p) (p - 2) → r ≡ previous_of (previous p)
two_before zero None h = refl
two_before zero (Some x) h = absurd (omega (arith, h.0))
two_before (suc zero) None h = refl
two_before (suc zero) (Some x) h = absurd (omega (arith, h.0))
two_before (suc (suc p)) None h = absurd (h (omega arith))
two_before (suc (suc p)) (Some x) h = ap Some (omega (arith, h.1))

pub or_start_is : (start : ℕ) (u : Option ℕ) → unwrap_or u start ≡ or_start start u
or_start_is start None = refl
or_start_is start (Some v) = refl

-- the place of a partial split, by the mode
module _ (m : Mode) (start a : ℕ) (points : List ℕ) where
  pub partial_off : m.partial_split ≡ false → None ≡ partial_place m start points a
  unfolding partial_place
  partial_off e = rw e

  pub partial_end : (u s : Option ℕ) (v : ℕ) → m.partial_split ≡ true → m.partial_split_near_end ≡ true → u ≡ last_use a points → v ≡ unwrap_or u start → s ≡ near_end v a → s ≡ partial_place m start points a
  unfolding partial_place
  partial_end u s v e f g h i = rw (e, f, ← g, ← or_start_is start u, ← h) i

  pub partial_use : (u s : Option ℕ) (v : ℕ) → m.partial_split ≡ true → m.partial_split_near_end ≡ false → u ≡ last_use a points → v ≡ unwrap_or u start → s ≡ near_use v a → s ≡ partial_place m start points a
  unfolding partial_place
  partial_use u s v e f g h i = rw (e, f, ← g, ← or_start_is start u, ← h) i
