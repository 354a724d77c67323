-- The position that the fragments of a register give is read off the fragment at the cursor. Assumes nothing.
use mathlib.Core.Path.{◌≡◌, refl, sym, ◌∙◌}
use mathlib.Core.Bool.{Bool, true, false, and-false}
use mathlib.Core.List.{List, [], ◌∷◌}
use Prim.Native.Nat.{ℕ, zero, suc, ◌+◌, ◌-◌, ◌≤◌, ◌<◌}
use native.Mathlib.Omega.{arith}
use native.Mathlib.Decide.{dec_le}
use lib.ListN.{length, get_or, length-take, length-drop}
use lib.Seq.{get_or-take, get_or-drop}
use lib.Dec.{leb}
use borrow.Author.Tests.{le-leb, lt-leb}
use Rattle.words.specs.Choose.{choose}
use Rattle.words.specs.Points.{within}
use Rattle.words.specs.declared.Range.{Range}
use Rattle.words.specs.declared.Fragment.{Fragment}
use Rattle.words.specs.Packed.{fragment_in, part}
use Rattle.rules.specs.declared.Pos.{Pos}
use Rattle.rules.specs.declared.Pos.TheVariants.{Blocked, At, Never}
use Rattle.rules.specs.Positions.{lower_of}
use Rattle.rules.specs.Steps.{fixed_active, first_start}
use Rattle.activity.specs.Fixed.{Faced, fixed_pos, first_at, last_at, stop_in}

-- the tests of "a..e contains p"
below_start : (a e p : ℕ) → p < a → within a e p ≡ false
below_start a e p h = simp (lt-leb a p h)

above_end : (a e p : ℕ) → e < p → within a e p ≡ false
above_end a e p l = simp (lt-leb p e l, and-false)

-- every fragment of the list starts after x
After : ℕ → List ℕ → Type 0
After x ws = (k : ℕ) → k < length ws → x < first_at ws k

-- fragments that start after S do not contain it
later_inactive : (S : ℕ) (ws : List ℕ) → After S ws → fixed_active S ws ≡ false
unfolding fixed_active After
later_inactive S [] h = refl
later_inactive S (w ∷ ws) h =
    simp (below_start (fragment_in w).first (fragment_in w).last S (h 0 (omega arith)), later_inactive S ws (λ k l. h (suc k) (omega arith)))

lower_lower : (x y : ℕ) → x < y → (n : Pos) → lower_of (At x) n ≡ At x → lower_of (At x) (lower_of (At y) n) ≡ At x
lower_lower x y l Blocked e = e
lower_lower x y l (At z) e = go (leb y z)
  where
    go : (b : Bool) → lower_of (At x) (choose b (At y) (At z)) ≡ At x
    go true = simp (le-leb x y (omega arith))
    go false = e
lower_lower x y l Never e = simp (le-leb x y (omega arith))

-- of x and the fragments that start after it, x is the lower position
later_lower : (S end x : ℕ) (ws : List ℕ) → After x ws → lower_of (At x) (first_start S end ws) ≡ At x
unfolding first_start After
later_lower S end x [] h = refl
later_lower S end x (w ∷ ws) h = go (within S end (fragment_in w).first) (later_lower S end x ws (λ k l. h (suc k) (omega arith)))
  where
    go : (b : Bool) → lower_of (At x) (first_start S end ws) ≡ At x → lower_of (At x) (choose b (lower_of (At (fragment_in w).first) (first_start S end ws)) (first_start S end ws)) ≡ At x
    go true ih = lower_lower x (fragment_in w).first (h 0 (omega arith)) (first_start S end ws) ih
    go false ih = ih

-- fragments that start after the end give never
later_never : (S end : ℕ) (ws : List ℕ) → After end ws → first_start S end ws ≡ Never
unfolding first_start After
later_never S end [] h = refl
later_never S end (w ∷ ws) h = simp (above_end S end (fragment_in w).first (h 0 (omega arith)), later_never S end ws (λ k l. h (suc k) (omega arith)))

-- fragments in order, of which those before c end before S and that at c does not
record Sorted (S : ℕ) (ws : List ℕ) (c : ℕ) : Type 0 where
  ordered : (k : ℕ) → k < length ws → first_at ws k ≤ last_at ws k
  ascending : (j k : ℕ) → j < k → k < length ws → last_at ws j < first_at ws k
  past : (k : ℕ) → k < c → k < length ws → last_at ws k < S
  here : c < length ws → S ≤ last_at ws c

-- the first fragment ends before S: it says nothing
skip : (S end w : ℕ) (ws : List ℕ) → (fragment_in w).first ≤ (fragment_in w).last → (fragment_in w).last < S → fixed_pos S end (w ∷ ws) ≡ fixed_pos S end ws
unfolding fixed_pos fixed_active first_start
skip S end w ws o l = simp (above_end (fragment_in w).first (fragment_in w).last S l, below_start S end (fragment_in w).first (omega arith))

-- what the fragment at the cursor says
unfoldable looked : ℕ → ℕ → ℕ → Pos
looked S end w = choose (leb (fragment_in w).first S) Blocked (choose (leb (fragment_in w).first end) (At (fragment_in w).first) Never)

-- the first fragment does not end before S: it says all
look : (S end w : ℕ) (ws : List ℕ) → S ≤ (fragment_in w).last → After (fragment_in w).first ws → fixed_pos S end (w ∷ ws) ≡ looked S end w
unfolding fixed_pos fixed_active first_start looked After
look S end w ws l h = go (dec_le (fragment_in w).first S) (dec_le (fragment_in w).first end)
  where
    go : Dec ((fragment_in w).first ≤ S) → Dec ((fragment_in w).first ≤ end) → fixed_pos S end (w ∷ ws) ≡ looked S end w
    go (yes a) b = simp (le-leb (fragment_in w).first S a, le-leb S (fragment_in w).last l)
    go (no a) (yes b) =
        simp (lt-leb (fragment_in w).first S (omega arith), later_inactive S ws (λ k m. omega (arith, h k m)), le-leb S (fragment_in w).first (omega arith), le-leb (fragment_in w).first end b, later_lower S end (fragment_in w).first ws h)
    go (no a) (no b) =
        simp (lt-leb (fragment_in w).first S (omega arith), later_inactive S ws (λ k m. omega (arith, h k m)), le-leb S (fragment_in w).first (omega arith), lt-leb (fragment_in w).first end (omega arith), later_never S end ws (λ k m. omega (arith, h k m)))

module _ (S : ℕ) {w : ℕ} {ws : List ℕ} {c : ℕ} where
  -- without the first fragment, which ends before S
  sorted_rest : Sorted S (w ∷ ws) (suc c) → Sorted S ws c
  sorted_rest s =
      record {
        ordered = λ k l. s.ordered (suc k) (omega arith);
        ascending = λ j k m l. s.ascending (suc j) (suc k) (omega arith) (omega arith);
        past = λ k m l. s.past (suc k) (omega arith) (omega arith);
        here = λ l. s.here (omega arith);
      }

-- the fragment at the cursor says all
found : (S end : ℕ) (ws : List ℕ) (c : ℕ) → Sorted S ws c → c < length ws → fixed_pos S end ws ≡ looked S end (get_or ws c 0)
unfolding After
found S end [] c s l = absurd (omega arith)
found S end (w ∷ ws) zero s l =
    look S end w ws (s.here l) (λ k m. omega (arith, s.ascending 0 (suc k) (omega arith) (omega arith), s.ordered 0 (omega arith)))
found S end (w ∷ ws) (suc c) s l =
    skip S end w ws (s.ordered 0 (omega arith)) (s.past 0 (omega arith) (omega arith)) ∙ found S end ws c (sorted_rest S s) (omega arith)

-- past the last fragment there is nothing
passed : (S end : ℕ) (ws : List ℕ) (c : ℕ) → Sorted S ws c → length ws ≤ c → fixed_pos S end ws ≡ Never
unfolding fixed_pos fixed_active first_start
passed S end [] c s l = refl
passed S end (w ∷ ws) zero s l = absurd (omega arith)
passed S end (w ∷ ws) (suc c) s l =
    skip S end w ws (s.ordered 0 (omega arith)) (s.past 0 (omega arith) (omega arith)) ∙ passed S end ws c (sorted_rest S s) (omega arith)

module _ (fs : List ℕ) (range : Range) where
  part_length : stop_in range ≤ length fs → length (part range fs) ≡ range.count
  part_length h = simp (length-take, length-drop) (omega arith)

  part_at : (k : ℕ) → k < range.count → get_or (part range fs) k 0 ≡ get_or fs (range.index + k) 0
  part_at k h = rw (get_or-take, get_or-drop)

  module _ (cursor S : ℕ) (f : Faced fs range cursor S) where
    faced_sorted : Sorted S (part range fs) (cursor - range.index)
    faced_sorted =
        let n : length (part range fs) ≡ range.count = part_length f.inside in
        record {
          ordered = λ k l. let m : k < range.count = omega arith in rw (part_at k m) (f.ordered (range.index + k) (omega arith, omega arith));
          ascending = λ j k o l.
              let m : k < range.count = omega arith in
              let i : j < range.count = omega arith in
              rw (part_at k m, part_at j i) (f.ascending (range.index + j) (range.index + k) (omega arith, omega arith) (omega arith, omega arith) (omega arith));
          past = λ k o l. let m : k < range.count = omega arith in rw (part_at k m) (f.past (range.index + k) (omega arith, omega arith) (omega (arith, f.low)));
          here = λ l.
              let m : cursor - range.index < range.count = omega arith in
              let e : range.index + (cursor - range.index) ≡ cursor = omega (arith, f.low) in
              rw (part_at (cursor - range.index) m, e) (f.here (omega (arith, f.low)));
        }

    found_in : (end : ℕ) → cursor < stop_in range → fixed_pos S end (part range fs) ≡ looked S end (get_or fs cursor 0)
    found_in end h =
        let m : cursor - range.index < range.count = omega (arith, f.low) in
        let e : range.index + (cursor - range.index) ≡ cursor = omega (arith, f.low) in
        let n : length (part range fs) ≡ range.count = part_length f.inside in
        found S end (part range fs) (cursor - range.index) faced_sorted (omega arith) ∙ rw (part_at (cursor - range.index) m, e)

    passed_in : (end : ℕ) → stop_in range ≤ cursor → fixed_pos S end (part range fs) ≡ Never
    passed_in end h =
        let n : length (part range fs) ≡ range.count = part_length f.inside in
        passed S end (part range fs) (cursor - range.index) faced_sorted (omega (arith, f.low))

-- the answers of fixed_position
module _ {fs : List ℕ} {range : Range} {cursor S : ℕ} (end : ℕ) (f : Faced fs range cursor S) where
  pub says_none : stop_in range ≤ cursor → Never ≡ fixed_pos S end (part range fs)
  says_none h = sym (passed_in fs range cursor S f end h)

  module _ (w : Fragment) (e : w ≡ fragment_in (get_or fs cursor 0)) (h : cursor < stop_in range) where
    pub says_blocked : w.first ≤ S → Blocked ≡ fixed_pos S end (part range fs)
    unfolding looked
    says_blocked l = sym (found_in fs range cursor S f end h ∙ simp (le-leb (first_at fs cursor) S (rw e at l)))

    pub says_at : S < w.first → w.first ≤ end → At w.first ≡ fixed_pos S end (part range fs)
    unfolding looked
    says_at l m =
        rw e (sym (found_in fs range cursor S f end h ∙ simp (lt-leb (first_at fs cursor) S (rw e at l), le-leb (first_at fs cursor) end (rw e at m))))

    pub says_never : S < w.first → end < w.first → Never ≡ fixed_pos S end (part range fs)
    unfolding looked
    says_never l m = sym (found_in fs range cursor S f end h ∙ simp (lt-leb (first_at fs cursor) S (rw e at l), lt-leb (first_at fs cursor) end (rw e at m)))
