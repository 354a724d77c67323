-- One mention word: its points, and the first and last of them.
-- Assumes nothing.
use Rattle.std.specs.Prelude.{Option, None, Some}
use Rattle.std.specs.Option.{option_or}
use Prim.Native.Nat.{ℕ, ◌≤◌, ◌<◌}
use mathlib.Core.Path.{◌≡◌, refl, sym, ap, ◌∙◌}
use mathlib.Core.Bool.{Bool, true, false, ◌||◌}
use mathlib.Core.List.{◌++◌}
use native.Mathlib.Omega.{arith}
use lib.Dec.{ltb}
use borrow.Author.Tests.{ltb-true, ltb-false}
use Rattle.words.specs.Choose.{choose}
use Rattle.words.specs.Points.{use_point, def_point}
use Rattle.words.specs.Packed.{mention_in}
use Rattle.rules.specs.Uses.{at_use, at_def, points_in, next_use, last_use}
use Rattle.rules.specs.Split.{any_below}
use Rattle.uses.specs.Mentions.{Numbered, dot, stays_below}
use Rattle.uses.proofs.PointLaws.{Each, each_map, points_at, none_until, next_append, last_append}

dot_below : (b : Bool) (x n : ℕ) → x < n → Each (λ y. y < n) (dot b x)
dot_below true x n h = (h, tt)
dot_below false x n h = tt

dot_from : (b : Bool) (x n : ℕ) → n ≤ x → Each (λ y. n ≤ y) (dot b x)
dot_from true x n h = (h, tt)
dot_from false x n h = tt

-- the two points of a word: u and d say that they are there, x and y where
module _ (w i p x y : ℕ) (u d : Bool) (n : Numbered w i) where
  points_are : x ≡ use_point i → y ≡ def_point i → u ≡ at_use (mention_in w) → d ≡ at_def (mention_in w) → points_in (mention_in w) ≡ dot u x ++ dot d y
  points_are a b e f = rw (e, f, a, b, n.is)

  -- the next use is the Use point, else the Def point
  next_both : x ≡ use_point i → y ≡ def_point i → u ≡ at_use (mention_in w) → d ≡ at_def (mention_in w) → next_use p (points_in (mention_in w)) ≡ option_or (next_use p (dot u x)) (next_use p (dot d y))
  next_both a b e f = ap (next_use p) (points_are a b e f) ∙ next_append y p (dot u x) (dot d y) (dot_below u x y (omega arith)) (dot_from d y y (omega arith))

  -- the last use is the Def point, else the Use point
  last_both : x ≡ use_point i → y ≡ def_point i → u ≡ at_use (mention_in w) → d ≡ at_def (mention_in w) → last_use p (points_in (mention_in w)) ≡ option_or (last_use p (dot d y)) (last_use p (dot u x))
  last_both a b e f = ap (last_use p) (points_are a b e f) ∙ last_append y p (dot u x) (dot d y) (dot_below u x y (omega arith)) (dot_from d y y (omega arith))

-- the use of a word: that of its one point, else of the other
module _ (w i p x y : ℕ) (u d : Bool) (n : Numbered w i) where
  pub next_is_use : (z : ℕ) → x ≡ use_point i → u ≡ at_use (mention_in w) → Some z ≡ next_use p (dot u x) → Some z ≡ next_use p (points_in (mention_in w))
  next_is_use z a e g = sym (next_both w i p x (def_point i) u (at_def (mention_in w)) n a refl e refl ∙ rw (← g))

  pub next_is_def : (t : Option ℕ) → x ≡ use_point i → u ≡ at_use (mention_in w) → None ≡ next_use p (dot u x)
      → y ≡ def_point i → d ≡ at_def (mention_in w) → t ≡ next_use p (dot d y) → t ≡ next_use p (points_in (mention_in w))
  next_is_def t a e g b f h = h ∙ sym (next_both w i p x y u d n a b e f ∙ rw (← g))

  pub last_is_def : (z : ℕ) → y ≡ def_point i → d ≡ at_def (mention_in w) → Some z ≡ last_use p (dot d y) → Some z ≡ last_use p (points_in (mention_in w))
  last_is_def z b f g = sym (last_both w i p (use_point i) y (at_use (mention_in w)) d n refl b refl f ∙ rw (← g))

  pub last_is_use : (t : Option ℕ) → y ≡ def_point i → d ≡ at_def (mention_in w) → None ≡ last_use p (dot d y)
      → x ≡ use_point i → u ≡ at_use (mention_in w) → t ≡ last_use p (dot u x) → t ≡ last_use p (points_in (mention_in w))
  last_is_use t b f g a e h = h ∙ sym (last_both w i p x y u d n a b e f ∙ rw (← g))

-- a mention whose Use point is after p has no last use
pub last_is_after : (w i p x : ℕ) → Numbered w i → x ≡ use_point i → p < x → None ≡ last_use p (points_in (mention_in w))
last_is_after w i p x n e h = sym (none_until p (points_in (mention_in w)) (each_map _ _ (λ y q. omega (arith, n.is)) (points_in (mention_in w)) (points_at (mention_in w))))

or_false : (b : Bool) → b || false ≡ b
or_false true = refl
or_false false = refl

-- a word stays by its first point
stays_dots : (i p : ℕ) (u d : Bool) → any_below p (dot u (use_point i) ++ dot d (def_point i)) ≡ choose u (ltb (use_point i) p) (choose d (ltb (def_point i) p) false)
unfolding any_below
stays_dots i p true true = go (ltb (use_point i) p) (ltb (def_point i) p) refl refl
  where
    go : (a b : Bool) → ltb (use_point i) p ≡ a → ltb (def_point i) p ≡ b → a || (b || false) ≡ a
    go true b e f = refl
    go false true e f = absurd (omega (arith, ltb-false (use_point i) p e, ltb-true (def_point i) p f))
    go false false e f = refl
stays_dots i p true false = or_false (ltb (use_point i) p)
stays_dots i p false true = or_false (ltb (def_point i) p)
stays_dots i p false false = refl

stays_is : (w i p : ℕ) (u d : Bool) → Numbered w i → u ≡ at_use (mention_in w) → d ≡ at_def (mention_in w) → stays_below p w ≡ choose u (ltb (use_point i) p) (choose d (ltb (def_point i) p) false)
stays_is w i p u d n e f = ap (any_below p) (points_are w i p (use_point i) (def_point i) u d n refl refl e f) ∙ stays_dots i p u d

pub stays_use : (w i p x : ℕ) (u : Bool) → Numbered w i → u ≡ at_use (mention_in w) → u ≡ true → x ≡ use_point i → ltb x p ≡ stays_below p w
stays_use w i p x u n e t a = sym (stays_is w i p u (at_def (mention_in w)) n e refl ∙ rw (t, a))

pub stays_def : (w i p x : ℕ) (u d : Bool) → Numbered w i → u ≡ at_use (mention_in w) → u ≡ false → d ≡ at_def (mention_in w) → d ≡ true → x ≡ def_point i → ltb x p ≡ stays_below p w
stays_def w i p x u d n e t f g a = sym (stays_is w i p u d n e f ∙ rw (t, g, a))

pub stays_none : (w i p : ℕ) (u d : Bool) → Numbered w i → u ≡ at_use (mention_in w) → u ≡ false → d ≡ at_def (mention_in w) → d ≡ false → d ≡ stays_below p w
stays_none w i p u d n e t f g = g ∙ sym (stays_is w i p u d n e f ∙ rw (t, g))
