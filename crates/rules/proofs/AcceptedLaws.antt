-- Laws of the walks that the checks at entry make: a clean walk is clean at each of its entries.
-- Assumes nothing.
use Rattle.std.specs.Prelude.{Option, None, Some, Ok, Err}
use Prim.Native.Nat.{ℕ, zero, suc, ◌+◌, ◌-◌, ◌≤◌, ◌<◌}
use mathlib.Core.Path.{◌≡◌, refl, ap, ◌∙◌}
use mathlib.Core.Bool.{Bool, true, false, ◌&&◌, ◌||◌}
use mathlib.Core.List.{List, [], ◌∷◌, Memᴰ}
use mathlib.Core.Logic.{◌⊎◌, inl, inr}
use native.Mathlib.Nat.{not-suc-le-zero, le_of_suc-le-suc}
use native.Mathlib.Omega.{arith}
use native.Mathlib.Decide.{ℕ_discrete}
use lib.ListN.{length, get_or, take, drop, length-take, length-drop}
use lib.Seq.{get_or-take, get_or-drop, drop-cons}
use lib.Dec.{ltb, leb}
use borrow.Author.Tests.{ltb-true, leb-true}
use Rattle.words.specs.declared.Range.{Range}
use Rattle.words.specs.Packed.{class_in, fragment_in, part}
use Rattle.rules.specs.declared.Refusal.{Refusal}
use Rattle.rules.specs.Answers.{fine, Check}
use Rattle.rules.specs.Sound.{or_else, first, bad_unless, every, and_then, refuse_at, count_sum, ascends, ends_before, fragments_good}
use Rattle.rules.specs.Accepted.{InRange}

-- both of two tests
pub and_left : (a b : Bool) → a && b ≡ true → a ≡ true
and_left true b e = refl
and_left false b e = e

pub and_right : (a b : Bool) → a && b ≡ true → b ≡ true
and_right true b e = e
and_right false b e = cc

-- one of two tests
pub or_either : (a b : Bool) → a || b ≡ true → (a ≡ true) ⊎ (b ≡ true)
or_either true b e = inl refl
or_either false b e = inr e

-- both of two checks
pub then_left : (a b : Check) → and_then a b ≡ fine → a ≡ fine
then_left (Ok u) b e = refl
then_left (Err x) b e = e

pub then_right : (a b : Check) → and_then a b ≡ fine → b ≡ fine
then_right (Ok u) b e = e
then_right (Err x) b e = cc

pub refuse_fine : (a : ℕ → Refusal) (f : Option ℕ) → refuse_at a f ≡ fine → f ≡ None
refuse_fine a None e = refl
refuse_fine a (Some k) e = cc

-- both of two finds
pub else_left : (a b : Option ℕ) → or_else a b ≡ None → a ≡ None
else_left None b e = refl
else_left (Some k) b e = e

pub else_right : (a b : Option ℕ) → or_else a b ≡ None → b ≡ None
else_right None b e = e
else_right (Some k) b e = cc

pub unless_clean : (b : Bool) (k : ℕ) → bad_unless b k ≡ None → b ≡ true
unless_clean true k e = refl
unless_clean false k e = cc

-- a clean walk is clean at each of its n indices from i on
pub first_clean : (f : ℕ → Option ℕ) (i n : ℕ) → first f i n ≡ None → (k : ℕ) → i ≤ k → k < i + n → f k ≡ None
unfolding first
first_clean f i zero e k l h = absurd (omega arith)
first_clean f i (suc n) e k l h = go (ℕ_discrete k i) (λ m. first_clean f (suc i) n (else_right (f i) _ e) k m (omega arith))
  where
    go : Dec (k ≡ i) → (suc i ≤ k → f k ≡ None) → f k ≡ None
    go (yes d) later = ap f d ∙ else_left (f i) _ e
    go (no d) later = later (omega arith)

-- where every entry from i on must be good, each is
pub first_good : (g : ℕ → Bool) (i n : ℕ) → first (λ k. bad_unless (g k) k) i n ≡ None → (k : ℕ) → i ≤ k → k < i + n → g k ≡ true
first_good g i n e k l h = unless_clean (g k) k (first_clean (λ j. bad_unless (g j) j) i n e k l h)

-- a test that every entry passes, each passes
pub every_mem : (f : ℕ → Bool) (l : List ℕ) → every f l ≡ true → (p : ℕ) → Memᴰ p l → f p ≡ true
unfolding every
every_mem f [] e p m = elim m [ ]
every_mem f (x ∷ l) e p (Memᴰ.head d) = ap f d ∙ and_left (f x) _ e
every_mem f (x ∷ l) e p (Memᴰ.tail m) = every_mem f l (and_right (f x) _ e) p m

pub every_at : (f : ℕ → Bool) (l : List ℕ) → every f l ≡ true → (n : ℕ) → n < length l → f (get_or l n 0) ≡ true
unfolding every
every_at f [] e n h = absurd (not-suc-le-zero h)
every_at f (x ∷ l) e zero h = and_left (f x) _ e
every_at f (x ∷ l) e (suc n) h = every_at f l (and_right (f x) _ e) n (le_of_suc-le-suc h)

-- the entries of a range, by the table's index
pub part_long : (r : Range) (l : List ℕ) → r.index + r.count ≤ length l → length (part r l) ≡ r.count
part_long r l h = simp (length-take, length-drop) (omega arith)

pub part_at : (r : Range) (l : List ℕ) (j : ℕ) → InRange r j → get_or (part r l) (j - r.index) 0 ≡ get_or l j 0
part_at r l j h =
    let e : r.index + (j - r.index) ≡ j = omega arith in
    let k : j - r.index < r.count = omega arith in
    get_or-take r.count (drop r.index l) (j - r.index) 0 k ∙ get_or-drop r.index l (j - r.index) 0 ∙ ap (λ (n : ℕ). get_or l n 0) e

-- where each entry of a range is above the one before it, the later of two is above the earlier
pub all_ascend : (f : ℕ → ℕ) (r : Range) → ((j : ℕ) → InRange r j → ascends f r j ≡ true) → (j k : ℕ) → InRange r j → InRange r k → j < k → f j < f k
all_ascend f r s j zero h l m = absurd (not-suc-le-zero m)
all_ascend f r s j (suc k) h l m =
    go (ℕ_discrete j k) (or_either (ltb k r.index) _ (s (suc k) l)) (λ n. all_ascend f r s j k h (omega arith) n)
  where
    go : Dec (j ≡ k) → (ltb k r.index ≡ true) ⊎ (ltb (f k) (f (suc k)) ≡ true) → (j < k → f j < f k) → f j < f (suc k)
    go d (inl e) ih = absurd (omega (arith, ltb-true k r.index e))
    go (yes d) (inr e) ih = let a : f j ≡ f k = ap f d in omega (arith, ltb-true (f k) (f (suc k)) e)
    go (no d) (inr e) ih = let a : f j < f k = ih (omega arith) in omega (arith, ltb-true (f k) (f (suc k)) e)

-- the counts of the classes before class k, and its own, are within the sum of all
pub count_within : (l : List ℕ) (k : ℕ) → k < length l → count_sum (take k l) + (class_in (get_or l k 0)).count ≤ count_sum l
unfolding count_sum
count_within [] k h = absurd (not-suc-le-zero h)
count_within (x ∷ l) zero h = omega arith
count_within (x ∷ l) (suc k) h = let ih = count_within l k (le_of_suc-le-suc h) in omega arith

-- the fragment w of a register, before the fragments ws
abbrev pub fragment_good : ℕ → ℕ → List ℕ → Bool
fragment_good limit w ws = leb (fragment_in w).first (fragment_in w).last && ltb (fragment_in w).last limit && ends_before w ws

-- good fragments are good one by one
pub fragments_at : (limit : ℕ) (l : List ℕ) → fragments_good limit l ≡ true → (n : ℕ) → n < length l → fragment_good limit (get_or l n 0) (drop (suc n) l) ≡ true
unfolding fragments_good
fragments_at limit [] e n h = absurd (not-suc-le-zero h)
fragments_at limit (x ∷ l) e zero h = and_left (fragment_good limit x l) (fragments_good limit l) e
fragments_at limit (x ∷ l) e (suc n) h = fragments_at limit l (and_right (fragment_good limit x l) (fragments_good limit l) e) n (le_of_suc-le-suc h)

module _ (limit : ℕ) (l : List ℕ) (good : fragments_good limit l ≡ true) where
  -- each is ordered,
  pub fragment_ordered : (n : ℕ) → n < length l → (fragment_in (get_or l n 0)).first ≤ (fragment_in (get_or l n 0)).last
  fragment_ordered n h =
      let w : ℕ = get_or l n 0 in
      leb-true _ _ (and_left (leb (fragment_in w).first (fragment_in w).last) (ltb (fragment_in w).last limit) (and_left _ (ends_before w (drop (suc n) l)) (fragments_at limit l good n h)))

  -- below the limit,
  pub fragment_below : (n : ℕ) → n < length l → (fragment_in (get_or l n 0)).last < limit
  fragment_below n h =
      let w : ℕ = get_or l n 0 in
      ltb-true _ _ (and_right (leb (fragment_in w).first (fragment_in w).last) (ltb (fragment_in w).last limit) (and_left _ (ends_before w (drop (suc n) l)) (fragments_at limit l good n h)))

  -- and ends before the next begins,
  pub fragment_next : (n : ℕ) → suc n < length l → (fragment_in (get_or l n 0)).last < (fragment_in (get_or l (suc n) 0)).first
  fragment_next n h =
      let w : ℕ = get_or l n 0 in
      let e : ends_before w (drop (suc n) l) ≡ true = and_right (leb (fragment_in w).first (fragment_in w).last && ltb (fragment_in w).last limit) _ (fragments_at limit l good n (omega arith)) in
      ltb-true _ _ (rw (drop-cons l (suc n) 0 h) at e)

  -- hence before every later one
  pub fragments_ascend : (n k : ℕ) → k < length l → n < k → (fragment_in (get_or l n 0)).last < (fragment_in (get_or l k 0)).first
  fragments_ascend n zero h m = absurd (not-suc-le-zero m)
  fragments_ascend n (suc k) h m = go (ℕ_discrete n k) (λ d. fragments_ascend n k (omega arith) d)
    where
      go : Dec (n ≡ k) → (n < k → (fragment_in (get_or l n 0)).last < (fragment_in (get_or l k 0)).first) → (fragment_in (get_or l n 0)).last < (fragment_in (get_or l (suc k) 0)).first
      go (yes d) ih = rw d (fragment_next k h)
      go (no d) ih = omega (arith, ih (omega arith), fragment_ordered k (omega arith), fragment_next k h)
