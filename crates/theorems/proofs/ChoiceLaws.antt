-- The register that is chosen, the record that holds it, positions, and the place of a partial split.
-- Assumes nothing.
use Rattle.std.specs.Prelude.{Option, None, Some}
use Prim.Native.Nat.{ℕ, zero, suc, ◌+◌, ◌%◌, ◌≤◌, ◌<◌}
use mathlib.Core.Path.{◌≡◌, refl, sym, ap, ◌∙◌}
use mathlib.Core.Logic.{◌≢◌}
use mathlib.Core.Bool.{Bool, true, false, ◌&&◌, not}
use mathlib.Core.List.Memᴰ
use mathlib.Core.List.{List, [], ◌∷◌, Memᴰ}
use native.Mathlib.Omega.{arith}
use borrow.Author.Tests.{eqb-true, eqb-false, eq-eqb, ltb-true, ltb-false, leb-true, leb-false}
use lib.Dec.{eqb, ltb, leb}
use lib.ListN.{length}
use Rattle.words.specs.Choose.{choose}
use Rattle.words.specs.Points.{use_point, instruction_of, is_use, previous, previous_of}
use Rattle.rules.specs.Steps.{Choice}
use Rattle.std.specs.Prelude.{None, Some}
use Rattle.rules.specs.declared.Mode.{Mode}
use Rattle.rules.specs.declared.Piece.{Piece}
use Rattle.rules.specs.declared.Place.{Place}
use Rattle.rules.specs.declared.Place.TheVariants.{Nowhere, Register, Slot}
use Rattle.rules.specs.declared.Pos.{Pos}
use Rattle.rules.specs.declared.Pos.TheVariants.{Blocked, At, Never}
use Rattle.rules.specs.Positions.{below, lower_of}
use Rattle.rules.specs.Uses.{last_use}
use Rattle.rules.specs.Split.{or_start, if_above, near_end, near_use, partial_place}
use Rattle.rules.specs.State.{State, no_piece}
use Rattle.rules.specs.Steps.{offer, is_register, holder_in, pos_of, furthest}
use Rattle.theorems.specs.Invariant.{at}

pub and_true : (a b : Bool) → a && b ≡ true → (a ≡ true) × (b ≡ true)
and_true true b e = (refl, e)
and_true false b e = let z : ◌≡◌ {A = ℕ} 0 1 = cc in absurd (omega arith)

-- past the end there is no piece
pub at_past : (ps : List Piece) (k : ℕ) → length ps ≤ k → at ps k ≡ no_piece
at_past [] k h = refl
at_past (q ∷ ps) zero h = absurd (omega arith)
at_past (q ∷ ps) (suc k) h = at_past ps k (omega arith)

-- ---- the furthest register
module _ (pos : ℕ → Pos) (scratch lo hi : ℕ) where
  pub record Chosen (r : ℕ) (p : Pos) : Type 0 where
    pub from : lo ≤ r
    pub below : r < hi
    pub not_scratch : r ≢ scratch
    pub is : p ≡ pos r
    pub unblocked : p ≢ Blocked

  abbrev pub ChoiceIs : Choice → Type 0
  ChoiceIs None = Unit
  ChoiceIs (Some e) = Chosen e.register e.pos

  not_blocked : (b p : Pos) → below b p ≡ true → p ≢ Blocked
  not_blocked Blocked p e d = let z : ◌≡◌ {A = Bool} false true = sym (ap (below Blocked) d) ∙ e in let o : ◌≡◌ {A = ℕ} 0 1 = cc in omega arith
  not_blocked (At x) p e d = let z : ◌≡◌ {A = Bool} false true = sym (ap (below (At x)) d) ∙ e in let o : ◌≡◌ {A = ℕ} 0 1 = cc in omega arith
  not_blocked Never p e d = let o : ◌≡◌ {A = ℕ} 0 1 = cc in omega arith

  -- it is a register of the class, not its scratch, and not blocked
  pub furthest_is : (r n : ℕ) (best : Choice) → lo ≤ r → r + n ≤ hi → ChoiceIs best → ChoiceIs (furthest pos scratch r n best)
  unfolding furthest
  furthest_is r zero best a b k = k
  furthest_is r (suc n) best a b k =
      furthest_is (suc r) n (choose (not (eqb r scratch) && below (pos_of best) (pos r)) (offer r (pos r)) best) (omega arith) (omega arith) (go (eqb r scratch) (below (pos_of best) (pos r)) refl refl)
    where
      go : (x y : Bool) → eqb r scratch ≡ x → below (pos_of best) (pos r) ≡ y → ChoiceIs (choose (not x && y) (offer r (pos r)) best)
      go true y d e = k
      go false true d e = record { from = a; below = omega arith; not_scratch = eqb-false r scratch d; is = refl; unblocked = not_blocked (pos_of best) (pos r) e }
      go false false d e = k

-- ---- the active record that holds register r
module _ (s : State) (r : ℕ) where
  abbrev pub HolderIs : List ℕ → Option ℕ → Type 0
  HolderIs js None = (j : ℕ) → Memᴰ j js → (at s.pieces j).place ≢ Register r
  HolderIs js (Some j) = Memᴰ j js × ((at s.pieces j).place ≡ Register r)

  place_is : (w : Place) → is_register r w ≡ true → w ≡ Register r
  place_is Nowhere e = let z : ◌≡◌ {A = ℕ} 0 1 = cc in absurd (omega arith)
  place_is (Register x) e = ap Register (eqb-true x r e)
  place_is (Slot t) e = let z : ◌≡◌ {A = ℕ} 0 1 = cc in absurd (omega arith)

  place_not : (w : Place) → is_register r w ≡ false → w ≢ Register r
  place_not w e d = let z : ◌≡◌ {A = Bool} true false = sym (eq-eqb r r refl) ∙ sym (ap (is_register r) d) ∙ e in let o : ◌≡◌ {A = ℕ} 0 1 = cc in omega arith

  pub holder_is : (js : List ℕ) → HolderIs js (holder_in s r js)
  unfolding holder_in
  holder_is [] = λ j m. absurd (Memᴰ.not-nil m)
  holder_is (i ∷ js) = go (is_register r (at s.pieces i).place) refl (holder_in s r js) (holder_is js)
    where
      go : (b : Bool) → is_register r (at s.pieces i).place ≡ b → (x : Option ℕ) → HolderIs js x → HolderIs (i ∷ js) (choose b (Some i) x)
      go true e x k = (Memᴰ.head refl, place_is (at s.pieces i).place e)
      go false e None k = by
        where
          by : (j : ℕ) → Memᴰ j (i ∷ js) → (at s.pieces j).place ≢ Register r
          by j (Memᴰ.head d) = rw d (place_not (at s.pieces i).place e)
          by j (Memᴰ.tail m) = k j m
      go false e (Some j) k = (Memᴰ.tail k.0, k.1)

-- ---- positions: what is above f lies above it in both
pub lower_above : (f : ℕ) (x y : Pos) → below (At f) (lower_of x y) ≡ true → (below (At f) x ≡ true) × (below (At f) y ≡ true)
lower_above f Blocked y e = let z : ◌≡◌ {A = ℕ} 0 1 = cc in absurd (omega arith)
lower_above f (At x) Blocked e = let z : ◌≡◌ {A = ℕ} 0 1 = cc in absurd (omega arith)
lower_above f (At x) (At y) e = go (leb x y) refl e
  where
    lt : (z : ℕ) → f < z → ltb f z ≡ true
    lt z l = by (ltb f z) refl
      where
        by : (b : Bool) → ltb f z ≡ b → ltb f z ≡ true
        by true d = d
        by false d = absurd (omega (arith, ltb-false f z d))

    go : (b : Bool) → leb x y ≡ b → below (At f) (choose b (At x) (At y)) ≡ true → (ltb f x ≡ true) × (ltb f y ≡ true)
    go true d o = (o, lt y (omega (arith, ltb-true f x o, leb-true x y d)))
    go false d o = (lt x (omega (arith, ltb-true f y o, leb-false x y d)), o)
lower_above f (At x) Never e = (e, refl)
lower_above f Never y e = (refl, e)

-- ---- a partial split at a is at a Use, above v and below a
record Between (v a p : ℕ) : Type 0 where
  pub above : v < p
  pub below : p < a
  pub even : p % 2 ≡ 0

previous_is : (a p : ℕ) → previous a ≡ Some p → a ≡ p + 1
previous_is zero p e = let z : ◌≡◌ {A = ℕ} 0 1 = cc in absurd (omega arith)
previous_is (suc a) p e = let z : a ≡ p = cc in omega arith

previous_of_is : (x : Option ℕ) (p : ℕ) → previous_of x ≡ Some p → x ≡ Some (p + 1)
previous_of_is None p e = let z : ◌≡◌ {A = ℕ} 0 1 = cc in absurd (omega arith)
previous_of_is (Some y) p e = ap Some (previous_is y p e)

near_end_lem : (v a p : ℕ) → near_end v a ≡ Some p → Between v a p
near_end_lem v a p e = go (is_use a) refl e
  where
    if : (x : Option ℕ) → if_above v x ≡ Some p → (x ≡ Some p) × (v < p)
    if None d = let z : ◌≡◌ {A = ℕ} 0 1 = cc in absurd (omega arith)
    if (Some y) d = by (ltb v y) refl d
      where
        by : (b : Bool) → ltb v y ≡ b → choose b (Some y) None ≡ Some p → (Some y ≡ Some p) × (v < p)
        by true k o = let z : y ≡ p = cc in (o, omega (arith, ltb-true v y k))
        by false k o = let z : ◌≡◌ {A = ℕ} 0 1 = cc in absurd (omega arith)

    go : (b : Bool) → is_use a ≡ b → if_above v (choose b (previous_of (previous a)) (previous a)) ≡ Some p → Between v a p
    go true d k =
        let o = if (previous_of (previous a)) k in
        let m = previous_is a (p + 1) (previous_of_is (previous a) p o.0) in
        let n : a % 2 ≡ 0 = eqb-true (a % 2) 0 d in
        record { above = o.1; below = omega arith; even = omega arith }
    go false d k =
        let o = if (previous a) k in
        let m = previous_is a p o.0 in
        let n : a % 2 ≢ 0 = eqb-false (a % 2) 0 d in
        record { above = o.1; below = omega arith; even = omega arith }

near_use_lem : (v a p : ℕ) → near_use v a ≡ Some p → Between v a p
near_use_lem v a p e = go (ltb (use_point (instruction_of v + 1)) a) refl e
  where
    go : (b : Bool) → ltb (use_point (instruction_of v + 1)) a ≡ b → choose b (Some (use_point (instruction_of v + 1))) None ≡ Some p → Between v a p
    go true d k = let z : use_point (instruction_of v + 1) ≡ p = cc in let l = ltb-true (use_point (instruction_of v + 1)) a d in record { above = omega arith; below = omega arith; even = omega arith }
    go false d k = let z : ◌≡◌ {A = ℕ} 0 1 = cc in absurd (omega arith)

pub partial_is : (m : Mode) (start : ℕ) (points : List ℕ) (a p : ℕ) → ((v : ℕ) → last_use a points ≡ Some v → start ≤ v) → partial_place m start points a ≡ Some p → (start < p) × (p < a) × (p % 2 ≡ 0)
unfolding partial_place
partial_is m start points a p f e = go m.partial_split m.partial_split_near_end e
  where
    low : start ≤ or_start start (last_use a points)
    low = by (last_use a points) refl
      where
        by : (x : Option ℕ) → last_use a points ≡ x → start ≤ or_start start x
        by None d = omega arith
        by (Some y) d = f y d

    so : Between (or_start start (last_use a points)) a p → (start < p) × (p < a) × (p % 2 ≡ 0)
    so b = (omega (arith, b.above, low), b.below, b.even)

    go : (x y : Bool) → choose x (choose y (near_end (or_start start (last_use a points)) a) (near_use (or_start start (last_use a points)) a)) None ≡ Some p → (start < p) × (p < a) × (p % 2 ≡ 0)
    go true true d = so (near_end_lem (or_start start (last_use a points)) a p d)
    go true false d = so (near_use_lem (or_start start (last_use a points)) a p d)
    go false y d = let z : ◌≡◌ {A = ℕ} 0 1 = cc in absurd (omega arith)
