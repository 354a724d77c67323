-- Lists: what is in a part of a table, in a queue, among the entries that pass a test; and how far a test holds.
-- Assumes nothing.
use Prim.Native.Nat.{ℕ, zero, suc, ◌+◌, ◌-◌, ◌≤◌, ◌<◌}
use mathlib.Core.Path.{◌≡◌, refl, sym, ap, ◌∙◌}
use mathlib.Core.Logic.{◌⊎◌, inl, inr, ⊎_elim}
use mathlib.Core.Bool.{Bool, true, false}
use mathlib.Core.List.{List, [], ◌∷◌, ◌++◌, Memᴰ}
use native.Mathlib.Omega.{arith}
use native.Mathlib.Decide.{ℕ_discrete}
use borrow.Author.Tests.{leb-true, leb-false}
use lib.Dec.{leb}
use lib.ListN.{length, get_or, length-take, length-drop}
use lib.Seq.{get_or-take, get_or-drop}
use Rattle.words.specs.Choose.{choose}
use Rattle.words.specs.declared.Range.{Range}
use Rattle.words.specs.Packed.{part}
use Rattle.rules.specs.Accepted.{InRange}
use Rattle.rules.specs.State.{insert}
use Rattle.rules.specs.Split.{count_of}
use Rattle.rules.specs.Steps.{keep}
use Rattle.theorems.specs.Invariant.{Asc}

module _ {A : Type 0} where
  -- an entry by its index, and back
  pub mem_get_d : (l : List A) (i : ℕ) (d : A) → i < length l → Memᴰ (get_or l i d) l
  mem_get_d [] i d h = absurd (omega arith)
  mem_get_d (x ∷ l) zero d h = Memᴰ.head refl
  mem_get_d (x ∷ l) (suc i) d h = Memᴰ.tail (mem_get_d l i d (omega arith))

  pub index_of : {a : A} (l : List A) (d : A) → Memᴰ a l → (i : ℕ) × (i < length l) × (get_or l i d ≡ a)
  index_of {a = a} [] d x' = elim x' [ ]
  index_of (x ∷ l) d (Memᴰ.head e) = (0, omega arith, sym e)
  index_of (x ∷ l) d (Memᴰ.tail m) = let r = index_of l d m in (suc r.0, omega (arith, r.1), r.2)

  -- the last entry is in
  pub mem_last : (l : List A) (x : A) → Memᴰ x (l ++ (x ∷ []))
  mem_last [] x = Memᴰ.head refl
  mem_last (y ∷ l) x = Memᴰ.tail (mem_last l x)

  pub mem_left : {a : A} (l r : List A) → Memᴰ a l → Memᴰ a (l ++ r)
  mem_left {a = a} [] r x' = elim x' [ ]
  mem_left (x ∷ l) r (Memᴰ.head e) = Memᴰ.head e
  mem_left (x ∷ l) r (Memᴰ.tail m) = Memᴰ.tail (mem_left l r m)

-- ---- a range of a table
module _ (r : Range) (ws : List ℕ) (h : r.index + r.count ≤ length ws) where
  pub length_part : length (part r ws) ≡ r.count
  length_part = simp (length-take, length-drop) (omega arith)

  pub at_part : (i : ℕ) → i < r.count → get_or (part r ws) i 0 ≡ get_or ws (r.index + i) 0
  at_part i l = rw (get_or-take, get_or-drop)

  -- entry j of the range is in its part, and what is in the part is such an entry
  pub part_has : (j : ℕ) → InRange r j → Memᴰ (get_or ws j 0) (part r ws)
  part_has j u =
      let e : r.index + (j - r.index) ≡ j = omega (arith, u.0) in
      rw (← e) (rw (← (at_part (j - r.index) (omega (arith, u.0, u.1)))) (mem_get_d (part r ws) (j - r.index) 0 (omega (arith, u.0, u.1, length_part))))

  pub part_is : {w : ℕ} → Memᴰ w (part r ws) → (j : ℕ) × InRange r j × (w ≡ get_or ws j 0)
  part_is {w} m =
      let i = index_of (part r ws) 0 m in
      let l : i.0 < r.count = omega (arith, i.1, length_part) in
      (r.index + i.0, (omega arith, omega arith), sym i.2 ∙ at_part i.0 l)

-- ---- the queue
pub insert_new : (x : ℕ) (l : List ℕ) → Memᴰ x (insert x l)
unfolding insert
insert_new x [] = Memᴰ.head refl
insert_new x (y ∷ l) = go (leb x y) (insert_new x l)
  where
    go : (b : Bool) → Memᴰ x (insert x l) → Memᴰ x (choose b (x ∷ y ∷ l) (y ∷ insert x l))
    go true m = Memᴰ.head refl
    go false m = Memᴰ.tail m

pub insert_old : {a : ℕ} (x : ℕ) (l : List ℕ) → Memᴰ a l → Memᴰ a (insert x l)
unfolding insert
insert_old {a = a} x [] m = elim m [ ]
insert_old {a} x (y ∷ l) m = go (leb x y) m (λ n. insert_old x l n)
  where
    go : (b : Bool) → Memᴰ a (y ∷ l) → (Memᴰ a l → Memᴰ a (insert x l)) → Memᴰ a (choose b (x ∷ y ∷ l) (y ∷ insert x l))
    go true n f = Memᴰ.tail n
    go false (Memᴰ.head e) f = Memᴰ.head e
    go false (Memᴰ.tail n) f = Memᴰ.tail (f n)

pub insert_is : {a : ℕ} (x : ℕ) (l : List ℕ) → Memᴰ a (insert x l) → (a ≡ x) ⊎ Memᴰ a l
unfolding insert
insert_is {a} x [] (Memᴰ.head e) = inl e
insert_is {a} x [] (Memᴰ.tail m) = inr m
insert_is {a} x (y ∷ l) m = go (leb x y) m (λ n. insert_is x l n)
  where
    go : (b : Bool) → Memᴰ a (choose b (x ∷ y ∷ l) (y ∷ insert x l)) → (Memᴰ a (insert x l) → (a ≡ x) ⊎ Memᴰ a l) → (a ≡ x) ⊎ Memᴰ a (y ∷ l)
    go true (Memᴰ.head e) f = inl e
    go true (Memᴰ.tail n) f = inr n
    go false (Memᴰ.head e) f = inr (Memᴰ.head e)
    go false (Memᴰ.tail n) f = ⊎_elim (λ (e : a ≡ x). inl e) (λ (o : Memᴰ a l). inr (Memᴰ.tail o)) (f n)

-- nothing in an ascending list lies below where it begins
pub asc_low : {a : ℕ} (lo : ℕ) (l : List ℕ) → Asc lo l → Memᴰ a l → lo ≤ a
asc_low {a = a} lo [] s x'' = elim x'' [ ]
asc_low lo (x ∷ l) s (Memᴰ.head e) = omega (arith, s.0)
asc_low lo (x ∷ l) s (Memᴰ.tail m) = omega (arith, s.0, asc_low (suc x) l s.1 m)

pub asc_from : (lo hi : ℕ) (l : List ℕ) → lo ≤ hi → Asc hi l → Asc lo l
asc_from lo hi [] h s = s
asc_from lo hi (x ∷ l) h s = (omega (arith, s.0), s.1)

-- a new key keeps the order
pub asc_insert : (lo x : ℕ) (l : List ℕ) → lo ≤ x → Asc lo l → (Memᴰ x l → ⊥) → Asc lo (insert x l)
unfolding insert
asc_insert lo x [] h s n = (h, tt)
asc_insert lo x (y ∷ l) h s n = go (leb x y) refl (λ k. asc_insert (suc y) x l k s.1 (λ m. n (Memᴰ.tail m)))
  where
    go : (b : Bool) → leb x y ≡ b → (suc y ≤ x → Asc (suc y) (insert x l)) → Asc lo (choose b (x ∷ y ∷ l) (y ∷ insert x l))
    go true e f = (h, (elim (ℕ_discrete x y) [ yes d ↦ absurd (n (Memᴰ.head d)) | no d ↦ omega (arith, leb-true x y e) ], s.1))
    go false e f = (s.0, f (omega (arith, leb-false x y e)))

-- ---- the entries that pass a test
pub keep_has : {a : ℕ} (f : ℕ → Bool) (l : List ℕ) → Memᴰ a l → f a ≡ true → Memᴰ a (keep f l)
unfolding keep
keep_has {a = a} f [] m t = elim m [ ]
keep_has {a} f (x ∷ l) m t = go (f x) refl m (λ n. keep_has f l n t)
  where
    go : (b : Bool) → f x ≡ b → Memᴰ a (x ∷ l) → (Memᴰ a l → Memᴰ a (keep f l)) → Memᴰ a (choose b (x ∷ keep f l) (keep f l))
    go true e (Memᴰ.head d) k = Memᴰ.head d
    go true e (Memᴰ.tail n) k = Memᴰ.tail (k n)
    go false e (Memᴰ.head d) k = let z : ◌≡◌ {A = Bool} true false = sym t ∙ ap f d ∙ e in let o : ◌≡◌ {A = ℕ} 0 1 = cc in absurd (omega arith)
    go false e (Memᴰ.tail n) k = k n

pub keep_passes : {a : ℕ} (f : ℕ → Bool) (l : List ℕ) → Memᴰ a (keep f l) → f a ≡ true
unfolding keep
keep_passes {a = a} f [] m = elim m [ ]
keep_passes {a} f (x ∷ l) m = go (f x) refl m (λ n. keep_passes f l n)
  where
    go : (b : Bool) → f x ≡ b → Memᴰ a (choose b (x ∷ keep f l) (keep f l)) → (Memᴰ a (keep f l) → f a ≡ true) → f a ≡ true
    go true e (Memᴰ.head d) k = ap f d ∙ e
    go true e (Memᴰ.tail n) k = k n
    go false e n k = k n

-- ---- how many pass a test that, once failed, is failed by all that follow
-- none pass
pub count_none : (f : ℕ → Bool) (l : List ℕ) → ((i : ℕ) → i < length l → f (get_or l i 0) ≡ false) → count_of f l ≡ 0
unfolding count_of
count_none f [] h = refl
count_none f (x ∷ l) h = rw (h 0 (omega arith)) (count_none f l (λ i k. h (suc i) (omega arith)))

abbrev pub Prefix : (ℕ → Bool) → List ℕ → Type 0
Prefix f l = (i j : ℕ) → i < j → j < length l → f (get_or l j 0) ≡ true → f (get_or l i 0) ≡ true

later : (f : ℕ → Bool) (x : ℕ) (l : List ℕ) → Prefix f (x ∷ l) → f x ≡ false → (j : ℕ) → j < length l → f (get_or l j 0) ≡ false
later f x l p e j h = go (f (get_or l j 0)) refl
  where
    go : (b : Bool) → f (get_or l j 0) ≡ b → f (get_or l j 0) ≡ false
    go false t = t
    go true t = let z : ◌≡◌ {A = Bool} true false = sym (p 0 (suc j) (omega arith) (omega arith) t) ∙ e in let o : ◌≡◌ {A = ℕ} 0 1 = cc in absurd (omega arith)

-- the entries that pass are the first ones
pub count_at : (f : ℕ → Bool) (l : List ℕ) → Prefix f l → (i : ℕ) → i < length l → (i < count_of f l → f (get_or l i 0) ≡ true) × (count_of f l ≤ i → f (get_or l i 0) ≡ false)
unfolding count_of
count_at f [] p i h = absurd (omega arith)
count_at f (x ∷ l) p i h = go (f x) refl i h (λ j k. count_at f l (λ a b u v t. p (suc a) (suc b) (omega arith) (omega arith) t) j k)
  where
    go : (b : Bool) → f x ≡ b → (i : ℕ) → i < suc (length l) → ((j : ℕ) → j < length l → (j < count_of f l → f (get_or l j 0) ≡ true) × (count_of f l ≤ j → f (get_or l j 0) ≡ false))
        → (i < choose b (suc (count_of f l)) (count_of f l) → f (get_or (x ∷ l) i 0) ≡ true) × (choose b (suc (count_of f l)) (count_of f l) ≤ i → f (get_or (x ∷ l) i 0) ≡ false)
    go true e zero k ih = (λ u. e, λ u. absurd (omega arith))
    go true e (suc j) k ih = let r = ih j (omega arith) in (λ u. r.0 (omega arith), λ u. r.1 (omega arith))
    go false e zero k ih = let n = count_none f l (later f x l p e) in (λ u. absurd (omega arith), λ u. e)
    go false e (suc j) k ih = let n = count_none f l (later f x l p e) in (λ u. absurd (omega arith), λ u. later f x l p e j (omega arith))
