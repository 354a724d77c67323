-- The laws of points: previous and next are exact.
-- Assumes nothing.
use Rattle.std.specs.Prelude.{None, Some}
use Prim.Native.Nat.{ℕ, zero, suc, ◌-◌}
use mathlib.Core.Path.{◌≡◌, refl}
use native.Mathlib.Numerals.{add-one, unary_clauses}
use Rattle.words.specs.Points.{next, previous}

-- point 0 has no previous, and every other has the one below it
pub previous_zero : previous 0 ≡ None
previous_zero = refl

pub previous_of_lem : (p : ℕ) → (p ≡ 0 → ⊥) → previous p ≡ Some (p - 1)
previous_of_lem zero h = absurd (h refl)
previous_of_lem (suc p) h = simp unary_clauses

-- the previous of the next is the point itself
pub previous_next : (p : ℕ) → previous (next p) ≡ Some p
previous_next p = rw (add-one p)
