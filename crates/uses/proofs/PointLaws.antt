-- Where points ascend, the next use is the first at or after p, and the last use the last at or before: the laws of two runs, one below the other.
-- Assumes nothing.
use Rattle.std.specs.Prelude.{Option, None, Some}
use Rattle.std.specs.Option.{option_or, option_eq}
use Prim.Native.Nat.{ℕ, ◌≤◌, ◌<◌}
use mathlib.Core.Path.{◌≡◌, refl, sym, ◌∙◌, ap}
use mathlib.Core.Bool.{Bool, true, false, ◌||◌}
use mathlib.Core.List.{List, [], ◌∷◌, ◌++◌, Memᴰ, append_assoc}
use native.Mathlib.Omega.{arith}
use lib.Dec.{leb, ltb, eqb}
use borrow.Author.Tests.{le-leb, lt-leb, le-ltb, leb-true, leb-false, ltb-false, eqb-true, eqb-false, eq-eqb, ne_eqb}
use lib.Arith.{lt_of_le-ne}
use Rattle.words.specs.Choose.{choose}
use Rattle.words.specs.declared.Mention.{Mention}
use Rattle.words.specs.Points.{use_point, def_point}
use Rattle.words.specs.Packed.{mention_in}
use Rattle.rules.specs.Uses.{at_use, at_def, points_in, mention_points, is_point, lower, greater, next_use, last_use}
use Rattle.rules.specs.Split.{any_below}

-- every element has P; a spot has P if its point does
abbrev pub Each : (ℕ → Type 0) → List ℕ → Type 0
Each P [] = Unit
Each P (x ∷ xs) = P x × Each P xs

abbrev pub Has : (ℕ → Type 0) → Option ℕ → Type 0
Has P None = Unit
Has P (Some x) = P x

-- the first answer, or the second where there is none

pub each_append : (P : ℕ → Type 0) (xs ys : List ℕ) → Each P xs → Each P ys → Each P (xs ++ ys)
each_append P [] ys a b = b
each_append P (x ∷ xs) ys a b = (a.0, each_append P xs ys a.1 b)

pub each_map : (P Q : ℕ → Type 0) → ((x : ℕ) → P x → Q x) → (xs : List ℕ) → Each P xs → Each Q xs
each_map P Q f [] a = tt
each_map P Q f (x ∷ xs) a = (f x a.0, each_map P Q f xs a.1)

pub each_mem : (P : ℕ → Type 0) (x : ℕ) (xs : List ℕ) → Each P xs → Memᴰ x xs → P x
each_mem P x [] a x3 = elim x3 [ ]
each_mem P x (y ∷ ys) a (Memᴰ.head e) = rw e a.0
each_mem P x (y ∷ ys) a (Memᴰ.tail m) = each_mem P x ys a.1 m

-- a use that is found is one of the points
module _ (P : ℕ → Type 0) where
  choose_has : (b : Bool) (s t : Option ℕ) → Has P s → Has P t → Has P (choose b s t)
  choose_has true s t h k = h
  choose_has false s t h k = k

  lower_has : (x : ℕ) (s : Option ℕ) → P x → Has P s → Has P (lower x s)
  lower_has x None h k = h
  lower_has x (Some y) h k = choose_has (leb x y) (Some x) (Some y) h k

  greater_has : (x : ℕ) (s : Option ℕ) → P x → Has P s → Has P (greater x s)
  greater_has x None h k = h
  greater_has x (Some y) h k = choose_has (leb y x) (Some x) (Some y) h k

  pub next_has : (p : ℕ) (xs : List ℕ) → Each P xs → Has P (next_use p xs)
  unfolding next_use
  next_has p [] a = tt
  next_has p (x ∷ xs) a = choose_has (leb p x) (lower x (next_use p xs)) (next_use p xs) (lower_has x (next_use p xs) a.0 (next_has p xs a.1)) (next_has p xs a.1)

  pub last_has : (p : ℕ) (xs : List ℕ) → Each P xs → Has P (last_use p xs)
  unfolding last_use
  last_has p [] a = tt
  last_has p (x ∷ xs) a = choose_has (leb x p) (greater x (last_use p xs)) (last_use p xs) (greater_has x (last_use p xs) a.0 (last_has p xs a.1)) (last_has p xs a.1)

-- a point below all others is the lower, and never the greater
lower_below : (n x : ℕ) (s : Option ℕ) → x < n → Has (λ y. n ≤ y) s → lower x s ≡ Some x
lower_below n x None h k = refl
lower_below n x (Some y) h k = simp (le-leb x y (omega arith))

greater_above : (n x : ℕ) (s t : Option ℕ) → x < n → Has (λ y. n ≤ y) s → greater x (option_or s t) ≡ option_or s (greater x t)
greater_above n x None t h k = refl
greater_above n x (Some y) t h k = simp (lt-leb y x (omega arith))

or_choose : (b : Bool) (x y : ℕ) (s : Option ℕ) → choose b (Some x) (Some y) ≡ option_or (choose b (Some x) (Some y)) s
or_choose true x y s = refl
or_choose false x y s = refl

-- of two runs, one below the other, the next use is the first's if it has one
pub next_append : (n p : ℕ) (xs ys : List ℕ) → Each (λ x. x < n) xs → Each (λ y. n ≤ y) ys → next_use p (xs ++ ys) ≡ option_or (next_use p xs) (next_use p ys)
unfolding next_use
next_append n p [] ys u o = refl
next_append n p (x ∷ xs) ys u o = go (leb p x) (next_use p xs) (next_append n p xs ys u.1 o)
  where
    go : (b : Bool) (s : Option ℕ) → next_use p (xs ++ ys) ≡ option_or s (next_use p ys) → choose b (lower x (next_use p (xs ++ ys))) (next_use p (xs ++ ys)) ≡ option_or (choose b (lower x s) s) (next_use p ys)
    go false s e = e
    go true None e = rw e (lower_below n x (next_use p ys) u.0 (next_has (λ y. n ≤ y) p ys o))
    go true (Some z) e = rw e (or_choose (leb x z) x z (next_use p ys))

-- and the last use is the second's if it has one
pub last_append : (n p : ℕ) (xs ys : List ℕ) → Each (λ x. x < n) xs → Each (λ y. n ≤ y) ys → last_use p (xs ++ ys) ≡ option_or (last_use p ys) (last_use p xs)
unfolding last_use
last_append n p [] ys u o = or_nothing (last_use p ys)
  where
    or_nothing : (s : Option ℕ) → s ≡ option_or s None
    or_nothing None = refl
    or_nothing (Some x) = refl
last_append n p (x ∷ xs) ys u o = go (leb x p) (last_append n p xs ys u.1 o)
  where
    go : (b : Bool) → last_use p (xs ++ ys) ≡ option_or (last_use p ys) (last_use p xs) → choose b (greater x (last_use p (xs ++ ys))) (last_use p (xs ++ ys)) ≡ option_or (last_use p ys) (choose b (greater x (last_use p xs)) (last_use p xs))
    go false e = e
    go true e = rw e (greater_above n x (last_use p ys) (last_use p xs) u.0 (last_has (λ y. n ≤ y) p ys o))

-- p is a point exactly if it is the next use from p
abbrev pub is_at : ℕ → Option ℕ → Bool
is_at p None = false
is_at p (Some x) = eqb x p

-- a next use from p is at or after p
pub next_from : (p : ℕ) (xs : List ℕ) → Has (λ y. p ≤ y) (next_use p xs)
unfolding next_use
next_from p [] = tt
next_from p (x ∷ xs) = go (leb p x) refl (next_from p xs)
  where
    go : (b : Bool) → leb p x ≡ b → Has (λ y. p ≤ y) (next_use p xs) → Has (λ y. p ≤ y) (choose b (lower x (next_use p xs)) (next_use p xs))
    go true e h = lower_has (λ y. p ≤ y) x (next_use p xs) (leb-true p x e) h
    go false e h = h

point_here : (p x : ℕ) (s : Option ℕ) → p ≡ x → Has (λ y. p ≤ y) s → true ≡ is_at p (lower x s)
point_here p x None e h = simp (eq-eqb x p (omega arith))
point_here p x (Some y) e h = simp (le-leb x y (omega arith), eq-eqb x p (omega arith))

point_past : (p x : ℕ) (b : Bool) (s : Option ℕ) → p < x → b ≡ is_at p s → b ≡ is_at p (lower x s)
point_past p x b None l e = simp (ne_eqb x p (λ i. omega arith)) e
point_past p x b (Some y) l e = go (leb x y) refl
  where
    go : (c : Bool) → leb x y ≡ c → b ≡ is_at p (choose c (Some x) (Some y))
    go false t = e
    go true t = let h : x ≤ y = leb-true x y t in simp (ne_eqb x p (λ i. omega arith)) (simp (ne_eqb y p (λ i. omega arith)) at e)

point_step : (p x : ℕ) (b : Bool) (s : Option ℕ) → Has (λ y. p ≤ y) s → b ≡ is_at p s → eqb p x || b ≡ is_at p (choose (leb p x) (lower x s) s)
point_step p x b s h i = go (leb p x) (eqb p x) refl refl
  where
    go : (l e : Bool) → leb p x ≡ l → eqb p x ≡ e → e || b ≡ is_at p (choose l (lower x s) s)
    go true true t u = point_here p x s (eqb-true p x u) h
    go true false t u = point_past p x b s (lt_of_le-ne (leb-true p x t) (eqb-false p x u)) i
    go false true t u = absurd (omega (arith, leb-false p x t, eqb-true p x u))
    go false false t u = i

pub point_next : (p : ℕ) (xs : List ℕ) → is_point p xs ≡ is_at p (next_use p xs)
unfolding is_point next_use
point_next p [] = refl
point_next p (x ∷ xs) = point_step p x (is_point p xs) (next_use p xs) (next_from p xs) (point_next p xs)

pub point_equal : (p : ℕ) (xs : List ℕ) (u : Option ℕ) (r : Bool) → u ≡ next_use p xs → r ≡ option_eq eqb u (Some p) → r ≡ is_point p xs
point_equal p xs u r e f = f ∙ ap (λ s. option_eq eqb s (Some p)) e ∙ same (next_use p xs) ∙ sym (point_next p xs)
  where
    same : (s : Option ℕ) → option_eq eqb s (Some p) ≡ is_at p s
    same None = refl
    same (Some x) = refl

-- no point is below p: all are at or after it
pub none_below : (p : ℕ) (xs : List ℕ) → Each (λ x. p ≤ x) xs → any_below p xs ≡ false
unfolding any_below
none_below p [] a = refl
none_below p (x ∷ xs) a = simp (le-ltb x p a.0, none_below p xs a.1)

pub not_below : (p : ℕ) (xs : List ℕ) → any_below p xs ≡ false → Each (λ x. p ≤ x) xs
unfolding any_below
not_below p [] e = tt
not_below p (x ∷ xs) e = go (ltb x p) refl e (λ f. not_below p xs f)
  where
    go : (b : Bool) → ltb x p ≡ b → b || any_below p xs ≡ false → (any_below p xs ≡ false → Each (λ y. p ≤ y) xs) → (p ≤ x) × Each (λ y. p ≤ y) xs
    go true t f more = let z : ◌≡◌ {A = ℕ} 0 1 = cc in absurd (omega arith)
    go false t f more = (ltb-false x p t, more f)

-- all points are after p: none is the last use
pub none_until : (p : ℕ) (xs : List ℕ) → Each (λ x. p < x) xs → last_use p xs ≡ None
unfolding last_use
none_until p [] a = refl
none_until p (x ∷ xs) a = simp (lt-leb x p a.0, none_until p xs a.1)

-- the points of a mention lie at its instruction
pub points_at : (m : Mention) → Each (λ x. (use_point m.instruction ≤ x) × (x ≤ def_point m.instruction)) (points_in m)
points_at m = go (at_use m) (at_def m)
  where
    go : (u d : Bool) → Each (λ x. (use_point m.instruction ≤ x) × (x ≤ def_point m.instruction)) (choose u (use_point m.instruction ∷ []) [] ++ choose d (def_point m.instruction ∷ []) [])
    go true true = ((omega arith, omega arith), ((omega arith, omega arith), tt))
    go true false = ((omega arith, omega arith), tt)
    go false true = ((omega arith, omega arith), tt)
    go false false = tt

-- what holds of each mention's points holds of all
pub each_points : (P : ℕ → Type 0) (ws : List ℕ) → Each (λ w. Each P (points_in (mention_in w))) ws → Each P (mention_points ws)
unfolding mention_points
each_points P [] a = tt
each_points P (w ∷ ws) a = each_append P (points_in (mention_in w)) (mention_points ws) a.0 (each_points P ws a.1)

pub points_append : (vs ws : List ℕ) → mention_points (vs ++ ws) ≡ mention_points vs ++ mention_points ws
unfolding mention_points
points_append [] ws = refl
points_append (v ∷ vs) ws = rw (points_append vs ws) (sym (append_assoc (points_in (mention_in v)) (mention_points vs) (mention_points ws)))
