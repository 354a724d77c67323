-- What a walk over a run has found after n entries: each turn of the walks, and their ends.
-- Assumes nothing.
use Rattle.std.specs.Prelude.{Option, None, Some}
use Rattle.std.specs.Option.{option_or}
use Prim.Native.Nat.{ℕ, zero, suc, ◌+◌, ◌-◌, ◌≤◌, ◌<◌}
use mathlib.Core.Path.{◌≡◌, refl, sym, ap, ◌∙◌}
use mathlib.Core.Bool.{Bool, true, false}
use mathlib.Core.List.{List, [], ◌∷◌, ◌++◌, append-nil}
use native.Mathlib.Omega.{arith}
use native.Mathlib.Nat.{add-zero, eq-or-lt_of_le}
use mathlib.Core.Logic.{⊎_elim}
use native.Mathlib.Numerals.{add-one}
use lib.ListN.{length, get_or, take, drop, length-take, length-drop}
use lib.Seq.{drop-cons, take-suc, get_or-take, get_or-drop}
use borrow.Author.Tests.{ltb-false, le-ltb}
use Rattle.words.specs.declared.Range.{Range}
use Rattle.words.specs.Points.{use_point}
use Rattle.words.specs.Packed.{mention_in, part}
use Rattle.rules.specs.Uses.{points_in, mention_points, next_use, last_use}
use Rattle.rules.specs.Accepted.{InRange}
use Rattle.rules.specs.Split.{count_of}
use Rattle.uses.specs.Runs.{mention_at, Rising, Ascending, Kept}
use Rattle.uses.specs.Mentions.{stays_below}
use Rattle.uses.specs.Safepoints.{use_below}
use Rattle.uses.proofs.PointLaws.{Each, each_map, each_mem, each_points, points_at, points_append, next_append, last_append, none_below, not_below}

-- the run of count entries from an index on
abbrev pub run : ℕ → ℕ → Range
run from count = record { index = from; count = count }

-- what is left of a run after n entries, and the first n
abbrev pub rest : Range → ℕ → List ℕ → List ℕ
rest r n l = take (r.count - n) (drop (r.index + n) l)

abbrev pub front : Range → ℕ → List ℕ → List ℕ
front r n l = take n (drop r.index l)

module _ (r : Range) (l : List ℕ) where
  rest_all : rest r 0 l ≡ part r l
  rest_all = let e : r.count - 0 ≡ r.count = omega arith in rw (e, add-zero r.index)

  rest_more : (n : ℕ) → r.index + r.count ≤ length l → n < r.count → rest r n l ≡ get_or l (r.index + n) 0 ∷ rest r (n + 1) l
  rest_more n i h =
      let e : r.count - n ≡ suc (r.count - (n + 1)) = omega arith in
      let f : r.index + (n + 1) ≡ suc (r.index + n) = omega arith in
      rw (e, f, drop-cons l (r.index + n) 0 (omega arith))

  rest_none : (n : ℕ) → r.count ≤ n → rest r n l ≡ []
  rest_none n h = let e : r.count - n ≡ 0 = omega arith in rw e

  front_more : (n : ℕ) → r.index + r.count ≤ length l → n < r.count → front r (n + 1) l ≡ front r n l ++ (get_or l (r.index + n) 0 ∷ [])
  front_more n i h =
      let k : n < length (drop r.index l) = simp length-drop (omega arith) in
      rw (add-one n, take-suc (drop r.index l) n 0 k, get_or-drop r.index l n 0)

-- what holds at each index of a part holds of each entry
each_at : (P : ℕ → Type 0) (l : List ℕ) → ((k : ℕ) → k < length l → P (get_or l k 0)) → Each P l
each_at P [] f = tt
each_at P (x ∷ xs) f = (f 0 (omega arith), each_at P xs (λ k h. f (suc k) (omega arith)))

each_span : (P : ℕ → Type 0) (a n : ℕ) (l : List ℕ) → ((j : ℕ) → a ≤ j → j < a + n → P (get_or l j 0)) → Each P (take n (drop a l))
each_span P a n l f =
    each_at P (take n (drop a l))
    (λ k h.
    let e = length-take n (drop a l) in
    let i : k < n = omega arith in
    rw (get_or-take n (drop a l) k 0 i, get_or-drop a l k 0) (f (a + k) (omega arith) (omega arith)))

single : (w : ℕ) → mention_points (w ∷ []) ≡ points_in (mention_in w)
unfolding mention_points
single w = append-nil (points_in (mention_in w))

-- a run of rising mentions: all points of the entries after n lie above those of n, and all before below
module _ (r : Range) (l : List ℕ) (up : Rising r l) (n : ℕ) (h : n < r.count) where
  after : Each (λ x. use_point ((mention_at l (r.index + n)).instruction + 1) ≤ x) (mention_points (rest r (n + 1) l))
  after =
      each_points _ (rest r (n + 1) l)
      (each_span _ (r.index + (n + 1)) (r.count - (n + 1)) l
      (λ j a b.
      let k : (mention_at l (r.index + n)).instruction < (mention_at l j).instruction = up.ascending (r.index + n) j (omega arith, omega arith) (omega arith, omega arith) (omega arith) in
      each_map _ _ (λ x q. omega arith) (points_in (mention_at l j)) (points_at (mention_at l j))))

  here : Each (λ x. x < use_point ((mention_at l (r.index + n)).instruction + 1)) (points_in (mention_at l (r.index + n)))
  here = each_map _ _ (λ x q. omega arith) (points_in (mention_at l (r.index + n))) (points_at (mention_at l (r.index + n)))

  before : Each (λ x. x < use_point (mention_at l (r.index + n)).instruction) (mention_points (front r n l))
  before =
      each_points _ (front r n l)
      (each_span _ r.index n l
      (λ j a b.
      let k : (mention_at l j).instruction < (mention_at l (r.index + n)).instruction = up.ascending j (r.index + n) (omega arith, omega arith) (omega arith, omega arith) (omega arith) in
      each_map _ _ (λ x q. omega arith) (points_in (mention_at l j)) (points_at (mention_at l j))))

  there : Each (λ x. use_point (mention_at l (r.index + n)).instruction ≤ x) (points_in (mention_at l (r.index + n)))
  there = each_map _ _ (λ x q. omega arith) (points_in (mention_at l (r.index + n))) (points_at (mention_at l (r.index + n)))

  next_more : (p : ℕ) → next_use p (mention_points (rest r n l)) ≡ option_or (next_use p (points_in (mention_at l (r.index + n)))) (next_use p (mention_points (rest r (n + 1) l)))
  unfolding mention_points
  next_more p = rw (rest_more r l n up.inside h) (next_append _ p (points_in (mention_at l (r.index + n))) (mention_points (rest r (n + 1) l)) here after)

  last_more : (p : ℕ) → last_use p (mention_points (front r (n + 1) l)) ≡ option_or (last_use p (points_in (mention_at l (r.index + n)))) (last_use p (mention_points (front r n l)))
  last_more p =
      let one : mention_points (get_or l (r.index + n) 0 ∷ []) ≡ points_in (mention_at l (r.index + n)) = single (get_or l (r.index + n) 0) in
      rw (front_more r l n up.inside h, points_append (front r n l) (get_or l (r.index + n) 0 ∷ []), one) (last_append _ p (mention_points (front r n l)) (points_in (mention_at l (r.index + n))) before there)

-- the walk for the next use from p, after n entries without one
pub record Seeking (r : Range) (l : List ℕ) (p n : ℕ) : Type 0 where
  pub rising : Rising r l
  pub upto : n ≤ r.count
  pub is : next_use p (mention_points (part r l)) ≡ next_use p (mention_points (rest r n l))

module _ (r : Range) (l : List ℕ) (p : ℕ) where
  pub seeking_starts : Rising r l → Seeking r l p 0
  seeking_starts up = record { rising = up; upto = omega arith; is = rw (rest_all r l) }

  pub seeking_more : (n : ℕ) (u : Option ℕ) → Seeking r l p n → n < r.count → u ≡ next_use p (points_in (mention_at l (r.index + n))) → u ≡ None → Seeking r l p (n + 1)
  seeking_more n u s h e f =
      record {
        rising = s.rising;
        upto = omega arith;
        is = s.is ∙ next_more r l s.rising n h p ∙ rw (sym e ∙ f);
      }

  pub seeking_found : (n x : ℕ) (u : Option ℕ) → Seeking r l p n → n < r.count → u ≡ next_use p (points_in (mention_at l (r.index + n))) → u ≡ Some x → Some x ≡ next_use p (mention_points (part r l))
  seeking_found n x u s h e f = sym (s.is ∙ next_more r l s.rising n h p ∙ rw (sym e ∙ f))

  pub seeking_ends : (n : ℕ) → Seeking r l p n → r.count ≤ n → None ≡ next_use p (mention_points (part r l))
  unfolding mention_points next_use
  seeking_ends n s h = sym (s.is ∙ rw (rest_none r l n h))

  seeks : (n : ℕ) → Rising r l → n ≤ r.count → ((k : ℕ) → k < n → next_use p (points_in (mention_at l (r.index + k))) ≡ None) → Seeking r l p n
  seeks zero up h g = seeking_starts up
  seeks (suc n) up h g = rw (add-one n) at (seeking_more n None (seeks n up (omega arith) (λ k i. g k (omega arith))) (omega arith) (sym (g n (omega arith))) refl)

  -- the next use is that of the first mention that has one
  pub next_first : (n x : ℕ) → Rising r l → n < r.count → ((k : ℕ) → k < n → next_use p (points_in (mention_at l (r.index + k))) ≡ None)
      → next_use p (points_in (mention_at l (r.index + n))) ≡ Some x → next_use p (mention_points (part r l)) ≡ Some x
  next_first n x up h g e = sym (seeking_found n x (Some x) (seeks n up (omega arith) g) h (sym e) refl)

-- the walk for the last use at or before p, from the end, with n entries left
pub record Trailing (r : Range) (l : List ℕ) (p n : ℕ) : Type 0 where
  pub rising : Rising r l
  pub upto : n ≤ r.count
  pub is : last_use p (mention_points (part r l)) ≡ last_use p (mention_points (front r n l))

module _ (r : Range) (l : List ℕ) (p : ℕ) where
  pub trailing_starts : Rising r l → Trailing r l p r.count
  trailing_starts up = record { rising = up; upto = omega arith; is = refl }

  last_step : (n : ℕ) → Trailing r l p n → 0 < n → last_use p (mention_points (part r l)) ≡ option_or (last_use p (points_in (mention_at l (r.index + (n - 1))))) (last_use p (mention_points (front r (n - 1) l)))
  last_step n s h =
      let e : n ≡ n - 1 + 1 = omega arith in
      s.is ∙ ap (λ (k : ℕ). last_use p (mention_points (front r k l))) e ∙ last_more r l s.rising (n - 1) (omega arith) p

  pub trailing_more : (n : ℕ) (u : Option ℕ) → Trailing r l p n → 0 < n → u ≡ last_use p (points_in (mention_at l (r.index + (n - 1)))) → u ≡ None → Trailing r l p (n - 1)
  trailing_more n u s h e f = record { rising = s.rising; upto = omega arith; is = last_step n s h ∙ rw (sym e ∙ f) }

  pub trailing_found : (n x : ℕ) (u : Option ℕ) → Trailing r l p n → 0 < n → u ≡ last_use p (points_in (mention_at l (r.index + (n - 1)))) → u ≡ Some x → Some x ≡ last_use p (mention_points (part r l))
  trailing_found n x u s h e f = sym (last_step n s h ∙ rw (sym e ∙ f))

  pub trailing_ends : (n : ℕ) → Trailing r l p n → n ≤ 0 → None ≡ last_use p (mention_points (part r l))
  unfolding mention_points last_use
  trailing_ends n s h = let e : n ≡ 0 = omega arith in sym (s.is ∙ rw e)

  trails : (d n : ℕ) → Rising r l → n + d ≡ r.count → ((k : ℕ) → n ≤ k → k < r.count → last_use p (points_in (mention_at l (r.index + k))) ≡ None) → Trailing r l p n
  trails zero n up h g = let e : n ≡ r.count = omega arith in rw e (trailing_starts up)
  trails (suc d) n up h g =
      let e : n + 1 - 1 ≡ n = omega arith in
      rw e at (trailing_more (n + 1) None (trails d (n + 1) up (omega arith) (λ k i j. g k (omega arith) j)) (omega arith) (rw e (sym (g n (omega arith) (omega arith)))) refl)

  -- the last use is that of the last mention that has one
  pub last_last : (n x : ℕ) → Rising r l → n < r.count → ((k : ℕ) → n < k → k < r.count → last_use p (points_in (mention_at l (r.index + k))) ≡ None)
      → last_use p (points_in (mention_at l (r.index + n))) ≡ Some x → last_use p (mention_points (part r l)) ≡ Some x
  last_last n x up h g e =
      let f : n + 1 - 1 ≡ n = omega arith in
      let s : Trailing r l p (n + 1) = trails (r.count - (n + 1)) (n + 1) up (omega arith) (λ k i j. g k (omega arith) j) in
      sym (trailing_found (n + 1) x (Some x) s (omega arith) (rw f (sym e)) refl)

-- a test of which all entries after one that fails fail too
abbrev pub Falls : (ℕ → Bool) → Range → List ℕ → Type 0
Falls f r l = (j k : ℕ) → InRange r j → InRange r k → j < k → f (get_or l j 0) ≡ false → f (get_or l k 0) ≡ false

count_none : (f : ℕ → Bool) (l : List ℕ) → Each (λ x. f x ≡ false) l → count_of f l ≡ 0
unfolding count_of
count_none f [] a = refl
count_none f (x ∷ xs) a = rw a.0 (count_none f xs a.1)

-- the count of the entries that pass, after n that all passed
pub record Counting (f : ℕ → Bool) (r : Range) (l : List ℕ) (n : ℕ) : Type 0 where
  pub inside : r.index + r.count ≤ length l
  pub falls : Falls f r l
  pub upto : n ≤ r.count
  pub is : count_of f (part r l) ≡ n + count_of f (rest r n l)

module _ (f : ℕ → Bool) (r : Range) (l : List ℕ) where
  pub counting_starts : r.index + r.count ≤ length l → Falls f r l → Counting f r l 0
  counting_starts i g = record { inside = i; falls = g; upto = omega arith; is = rw (rest_all r l) (omega arith) }

  count_more : (n : ℕ) → Counting f r l n → n < r.count → f (get_or l (r.index + n) 0) ≡ true → count_of f (rest r n l) ≡ suc (count_of f (rest r (n + 1) l))
  unfolding count_of
  count_more n s h e = rw (rest_more r l n s.inside h, e)

  pub counting_more : (n : ℕ) (b : Bool) → Counting f r l n → n < r.count → b ≡ f (get_or l (r.index + n) 0) → b ≡ true → Counting f r l (n + 1)
  counting_more n b s h g t = record { inside = s.inside; falls = s.falls; upto = omega arith; is = let k = count_more n s h (sym g ∙ t) in omega (arith, s.is) }

  -- the first that fails is the r.count
  pub counting_stops : (n : ℕ) (b : Bool) → Counting f r l n → n < r.count → b ≡ f (get_or l (r.index + n) 0) → b ≡ false → Kept f r l n
  counting_stops n b s h g t =
      let none : count_of f (rest r n l) ≡ 0 = count_none f (rest r n l) (each_span (λ x. f x ≡ false) (r.index + n) (r.count - n) l (λ j a b. fails j a (omega arith))) in
      record { is = omega (arith, s.is); most = omega arith }
    where
      fails : (j : ℕ) → r.index + n ≤ j → j < r.index + r.count → f (get_or l j 0) ≡ false
      fails j a b = ⊎_elim (λ i. rw i at (sym g ∙ t)) (λ i. s.falls (r.index + n) j (omega arith, omega arith) (omega arith, omega arith) i (sym g ∙ t)) (eq-or-lt_of_le a)

  pub counting_ends : (n : ℕ) → Counting f r l n → r.count ≤ n → Kept f r l r.count
  unfolding count_of
  counting_ends n s h =
      let none : count_of f (rest r n l) ≡ 0 = rw (rest_none r l n h) in
      record { is = omega (arith, s.is, s.upto); most = omega arith }

  counts : (n : ℕ) → r.index + r.count ≤ length l → Falls f r l → n ≤ r.count → ((k : ℕ) → k < n → f (get_or l (r.index + k) 0) ≡ true) → Counting f r l n
  counts zero i d h g = counting_starts i d
  counts (suc n) i d h g = rw (add-one n) at (counting_more n true (counts n i d (omega arith) (λ k j. g k (omega arith))) (omega arith) (sym (g n (omega arith))) refl)

  -- the count of a test that falls is the first index that fails
  pub count_first : (n : ℕ) → r.index + r.count ≤ length l → Falls f r l → n < r.count → ((k : ℕ) → k < n → f (get_or l (r.index + k) 0) ≡ true)
      → f (get_or l (r.index + n) 0) ≡ false → count_of f (part r l) ≡ n
  count_first n i d h g e = sym (counting_stops n false (counts n i d (omega arith) g) h (sym e) refl).is

-- the tests of a split fall
pub mentions_fall : (p : ℕ) (r : Range) (l : List ℕ) → Rising r l → Falls (stays_below p) r l
mentions_fall p r l up j k a b h e =
    let x = up.pointed j a in
    let least : p ≤ x.0 = each_mem (λ y. p ≤ y) x.0 (points_in (mention_at l j)) (not_below p (points_in (mention_at l j)) e) x.1 in
    let at = each_mem _ x.0 (points_in (mention_at l j)) (points_at (mention_at l j)) x.1 in
    let i : (mention_at l j).instruction < (mention_at l k).instruction = up.ascending j k a b h in
    none_below p (points_in (mention_at l k)) (each_map _ _ (λ y q. omega arith) (points_in (mention_at l k)) (points_at (mention_at l k)))

pub safepoints_fall : (p : ℕ) (r : Range) (l : List ℕ) → Ascending r l → Falls (use_below p) r l
safepoints_fall p r l up j k a b h e =
    let i : get_or l j 0 < get_or l k 0 = up.ascending j k a b h in
    le-ltb (use_point (get_or l k 0)) p (omega (arith, ltb-false (use_point (get_or l j 0)) p e))
