-- One register weighed against the best. Assumes nothing.
use Prim.Native.Nat.{ℕ}
use mathlib.Core.Path.{◌≡◌, refl}
use mathlib.Core.Bool.{Bool, true, false}
use borrow.Author.Tests.{eq-eqb, ne_eqb}
use Rattle.std.specs.Prelude.{Some}
use Rattle.rules.specs.declared.Pos.{Pos}
use Rattle.rules.specs.declared.RegPos.{RegPos}
use Rattle.rules.specs.Positions.{below}
use Rattle.rules.specs.Steps.{Choice, pos_of}
use Rattle.choice.specs.Row.{better}

module _ (best : Choice) (r : ℕ) (p : Pos) (scratch : ℕ) where
  -- scratch is never taken
  pub never_scratch : r ≡ scratch → best ≡ better scratch best r p
  unfolding better
  never_scratch e = simp (eq-eqb r scratch e)

  -- one strictly above the best takes its place
  module _ (n : r ≡ scratch → ⊥) (t : Bool) (g : t ≡ below (pos_of best) p) where
    pub better_choice : (e : RegPos) → e.register ≡ r → e.pos ≡ p → t ≡ true → Some e ≡ better scratch best r p
    unfolding better
    better_choice e i j h = rw (ne_eqb r scratch n, ← g, h, ← i, ← j) refl

    pub same_choice : t ≡ false → best ≡ better scratch best r p
    unfolding better
    same_choice h = rw (ne_eqb r scratch n, ← g, h) refl
