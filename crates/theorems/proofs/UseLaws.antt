-- What next use and last use find in a list of points, and which points a run of mentions has.
-- Assumes nothing.
use Rattle.std.specs.Prelude.{Option, None, Some}
use Prim.Native.Nat.{ℕ, ◌≤◌, ◌<◌}
use mathlib.Core.Path.{◌≡◌, refl}
use mathlib.Core.Logic.{⊎_elim}
use mathlib.Core.Bool.{Bool, true, false, ◌||◌}
use mathlib.Core.List.Memᴰ
use mathlib.Core.List.{List, [], ◌∷◌, Memᴰ}
use native.Mathlib.Omega.{arith}
use borrow.Author.Tests.{leb-true, leb-false, ltb-true, ltb-false, eqb-false}
use lib.Dec.{leb, ltb, eqb}
use Rattle.words.specs.Choose.{choose}
use Rattle.words.specs.Packed.{mention_in}
use Rattle.rules.specs.Uses.{lower, greater, points_in, mention_points, is_point, next_use, last_use}
use Rattle.rules.specs.Split.{any_below}
use Rattle.rules.proofs.AcceptedLaws.{or_either}

pub or_false : (a b : Bool) → a || b ≡ false → (a ≡ false) × (b ≡ false)
or_false true b e = let z : ◌≡◌ {A = ℕ} 0 1 = cc in absurd (omega arith)
or_false false b e = (refl, e)

module _ (p : ℕ) (xs : List ℕ) where
  pub record Least (y : ℕ) : Type 0 where
    pub from : p ≤ y
    pub has : Memᴰ y xs
    pub least : (x : ℕ) → Memᴰ x xs → p ≤ x → y ≤ x

  pub record Greatest (y : ℕ) : Type 0 where
    pub upto : y ≤ p
    pub has : Memᴰ y xs
    pub greatest : (x : ℕ) → Memᴰ x xs → x ≤ p → x ≤ y

  abbrev pub NextIs : Option ℕ → Type 0
  NextIs None = (x : ℕ) → Memᴰ x xs → x < p
  NextIs (Some y) = Least y

  abbrev pub LastIs : Option ℕ → Type 0
  LastIs None = (x : ℕ) → Memᴰ x xs → p < x
  LastIs (Some y) = Greatest y

-- next use: the least point at or after p
pub next_is : (p : ℕ) (xs : List ℕ) → NextIs p xs (next_use p xs)
unfolding next_use
next_is p [] = λ x m. absurd (Memᴰ.not-nil m)
next_is p (x ∷ xs) = go (leb p x) refl (next_use p xs) (next_is p xs)
  where
    skip : x < p → (s : Option ℕ) → NextIs p xs s → NextIs p (x ∷ xs) s
    skip l None n = by
      where
        by : (z : ℕ) → Memᴰ z (x ∷ xs) → z < p
        by z (Memᴰ.head e) = omega arith
        by z (Memᴰ.tail m) = n z m
    skip l (Some y) n = record { from = n.from; has = Memᴰ.tail n.has; least = by }
      where
        by : (z : ℕ) → Memᴰ z (x ∷ xs) → p ≤ z → y ≤ z
        by z (Memᴰ.head e) u = absurd (omega arith)
        by z (Memᴰ.tail m) u = n.least z m u

    here : p ≤ x → ((z : ℕ) → Memᴰ z xs → p ≤ z → x ≤ z) → Least p (x ∷ xs) x
    here l f = record { from = l; has = Memᴰ.head refl; least = by }
      where
        by : (z : ℕ) → Memᴰ z (x ∷ xs) → p ≤ z → x ≤ z
        by z (Memᴰ.head e) u = omega arith
        by z (Memᴰ.tail m) u = f z m u

    there : (y : ℕ) → y < x → Least p xs y → Least p (x ∷ xs) y
    there y l n = record { from = n.from; has = Memᴰ.tail n.has; least = by }
      where
        by : (z : ℕ) → Memᴰ z (x ∷ xs) → p ≤ z → y ≤ z
        by z (Memᴰ.head e) u = omega arith
        by z (Memᴰ.tail m) u = n.least z m u

    both : p ≤ x → (s : Option ℕ) → NextIs p xs s → NextIs p (x ∷ xs) (lower x s)
    both l None n = here l (λ z m u. absurd (omega (arith, n z m)))
    both l (Some y) n = which (leb x y) refl
      where
        which : (b : Bool) → leb x y ≡ b → NextIs p (x ∷ xs) (choose b (Some x) (Some y))
        which true e = here l (λ z m u. omega (arith, leb-true x y e, n.least z m u))
        which false e = there y (leb-false x y e) n

    go : (b : Bool) → leb p x ≡ b → (s : Option ℕ) → NextIs p xs s → NextIs p (x ∷ xs) (choose b (lower x s) s)
    go true e s n = both (leb-true p x e) s n
    go false e s n = skip (leb-false p x e) s n

-- last use: the greatest point at or before p
pub last_is : (p : ℕ) (xs : List ℕ) → LastIs p xs (last_use p xs)
unfolding last_use
last_is p [] = λ x m. absurd (Memᴰ.not-nil m)
last_is p (x ∷ xs) = go (leb x p) refl (last_use p xs) (last_is p xs)
  where
    skip : p < x → (s : Option ℕ) → LastIs p xs s → LastIs p (x ∷ xs) s
    skip l None n = by
      where
        by : (z : ℕ) → Memᴰ z (x ∷ xs) → p < z
        by z (Memᴰ.head e) = omega arith
        by z (Memᴰ.tail m) = n z m
    skip l (Some y) n = record { upto = n.upto; has = Memᴰ.tail n.has; greatest = by }
      where
        by : (z : ℕ) → Memᴰ z (x ∷ xs) → z ≤ p → z ≤ y
        by z (Memᴰ.head e) u = absurd (omega arith)
        by z (Memᴰ.tail m) u = n.greatest z m u

    here : x ≤ p → ((z : ℕ) → Memᴰ z xs → z ≤ p → z ≤ x) → Greatest p (x ∷ xs) x
    here l f = record { upto = l; has = Memᴰ.head refl; greatest = by }
      where
        by : (z : ℕ) → Memᴰ z (x ∷ xs) → z ≤ p → z ≤ x
        by z (Memᴰ.head e) u = omega arith
        by z (Memᴰ.tail m) u = f z m u

    there : (y : ℕ) → x < y → Greatest p xs y → Greatest p (x ∷ xs) y
    there y l n = record { upto = n.upto; has = Memᴰ.tail n.has; greatest = by }
      where
        by : (z : ℕ) → Memᴰ z (x ∷ xs) → z ≤ p → z ≤ y
        by z (Memᴰ.head e) u = omega arith
        by z (Memᴰ.tail m) u = n.greatest z m u

    both : x ≤ p → (s : Option ℕ) → LastIs p xs s → LastIs p (x ∷ xs) (greater x s)
    both l None n = here l (λ z m u. absurd (omega (arith, n z m)))
    both l (Some y) n = which (leb y x) refl
      where
        which : (b : Bool) → leb y x ≡ b → LastIs p (x ∷ xs) (choose b (Some x) (Some y))
        which true e = here l (λ z m u. omega (arith, leb-true y x e, n.greatest z m u))
        which false e = there y (leb-false y x e) n

    go : (b : Bool) → leb x p ≡ b → (s : Option ℕ) → LastIs p xs s → LastIs p (x ∷ xs) (choose b (greater x s) s)
    go true e s n = both (leb-true x p e) s n
    go false e s n = skip (leb-false x p e) s n

-- a point that the test does not find is none
pub not_point : (p : ℕ) (xs : List ℕ) → is_point p xs ≡ false → Memᴰ p xs → ⊥
unfolding is_point
not_point p [] e x'' = elim x'' [ ]
not_point p (x ∷ xs) e (Memᴰ.head d) = eqb-false p x (or_false (eqb p x) (is_point p xs) e).0 d
not_point p (x ∷ xs) e (Memᴰ.tail m) = not_point p xs (or_false (eqb p x) (is_point p xs) e).1 m

-- one of the points is below p, or none is
pub any_below_lem : (p : ℕ) (xs : List ℕ) → any_below p xs ≡ true → (x : ℕ) × Memᴰ x xs × (x < p)
unfolding any_below
any_below_lem p [] e = let z : ◌≡◌ {A = ℕ} 0 1 = cc in absurd (omega arith)
any_below_lem p (x ∷ xs) e =
    ⊎_elim (λ (a : ltb x p ≡ true). (x, Memᴰ.head refl, ltb-true x p a)) (λ (b : any_below p xs ≡ true). let r = any_below_lem p xs b in (r.0, Memᴰ.tail r.1, r.2))
    (or_either (ltb x p) (any_below p xs) e)

pub none_below : (p : ℕ) (xs : List ℕ) → any_below p xs ≡ false → (x : ℕ) → Memᴰ x xs → p ≤ x
unfolding any_below
none_below p [] e y x3 = elim x3 [ ]
none_below p (x ∷ xs) e y (Memᴰ.head d) = omega (arith, ltb-false x p (or_false (ltb x p) (any_below p xs) e).0)
none_below p (x ∷ xs) e y (Memᴰ.tail m) = none_below p xs (or_false (ltb x p) (any_below p xs) e).1 y m

-- the points of a run of mentions are those of its mentions
pub points_has : {p w : ℕ} (ws : List ℕ) → Memᴰ w ws → Memᴰ p (points_in (mention_in w)) → Memᴰ p (mention_points ws)
unfolding mention_points
points_has {p = p} {w = w} [] x'' m = elim x'' [ ]
points_has {p} {w} (x ∷ ws) (Memᴰ.head e) m = Memᴰ.append_left (mention_points ws) (rw e at m)
points_has {p} {w} (x ∷ ws) (Memᴰ.tail n) m = Memᴰ.append_right (points_in (mention_in x)) (points_has ws n m)

pub points_is : {p : ℕ} (ws : List ℕ) → Memᴰ p (mention_points ws) → (w : ℕ) × Memᴰ w ws × Memᴰ p (points_in (mention_in w))
unfolding mention_points
points_is {p = p} [] m = elim m [ ]
points_is {p} (x ∷ ws) m =
    ⊎_elim (λ (a : Memᴰ p (points_in (mention_in x))). (x, Memᴰ.head refl, a)) (λ (b : Memᴰ p (mention_points ws)). let r = points_is ws b in (r.0, Memᴰ.tail r.1, r.2))
    (Memᴰ.append_cases (points_in (mention_in x)) m)
