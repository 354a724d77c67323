-- Laws of the tests of one entry.
-- Assumes nothing.
use Prim.Native.Nat.{ℕ, zero, suc, ◌+◌, ◌-◌, ◌*◌, ◌≤◌, ◌<◌}
use mathlib.Core.Path.{◌≡◌, refl, sym, ap, ◌∙◌}
use mathlib.Core.Bool.{Bool, true, false, ◌&&◌, ◌||◌, not}
use mathlib.Core.List.{List, [], ◌∷◌, ◌++◌}
use native.Mathlib.Omega.{arith}
use native.Mathlib.Numerals.{add-one}
use lib.ListN.{length, get_or, take, drop}
use lib.Dec.{ltb, leb, eqb}
use borrow.Author.Tests.{leb-true}
use Rattle.rules.proofs.AcceptedLaws.{and_left, and_right}
use Rattle.words.specs.declared.Range.{Range}
use Rattle.words.specs.Packed.{part}
use lib.Seq.{drop-cons}
use Rattle.std.specs.Bool.{MatchBool}
use Rattle.std.specs.List.{list_all, range_with_len, AllWithin, HoldsAt}
use Rattle.words.specs.Choose.{choose}
use Rattle.words.specs.Points.{use_point, def_point, within}
use Rattle.words.specs.declared.Mention.{Mention}
use Rattle.rules.specs.Uses.{points_in}
use Rattle.rules.specs.Sound.{every, fragments_good, range_end, range_good, end_before}
use Rattle.tables.specs.Entries.{between, fragment_good}

-- the points of a mention, one by one
pub points_inside : (a e : ℕ) (m : Mention) (x y : Bool) → x ≡ within a e (2 * m.instruction) → y ≡ within a e (2 * m.instruction + 1)
    → ((not (m.uses || m.mods) || x) && (not (m.mods || m.defs) || y)) ≡ every (within a e) (points_in m)
unfolding every
points_inside a e m x y h k = go (m.uses || m.mods) (m.mods || m.defs) x y h k
  where
    f : ℕ → Bool
    f = within a e

    go : (a b x y : Bool) → x ≡ f (use_point m.instruction) → y ≡ f (def_point m.instruction)
        → ((not a || x) && (not b || y)) ≡ every f (choose a (use_point m.instruction ∷ []) [] ++ choose b (def_point m.instruction ∷ []) [])
    go true true true true h k = cc
    go true true true false h k = cc
    go true true false y h k = cc
    go true false true y h k = cc
    go true false false y h k = cc
    go false true x true h k = cc
    go false true x false h k = cc
    go false false x y h k = refl

-- a run of words by its first
between_more : (a e : ℕ) (ws : List ℕ) → a < e → e ≤ length ws → between a e ws ≡ get_or ws a 0 ∷ between (a + 1) e ws
between_more a e ws h l =
    let d : e - a ≡ suc (e - (a + 1)) = omega arith in
    let m : a < length ws = omega arith in
    rw (d, drop-cons ws a 0 m, add-one a)

between_none : (a e : ℕ) (ws : List ℕ) → e ≤ a → between a e ws ≡ []
between_none a e ws h = let d : e - a ≡ 0 = omega arith in rw d

-- what `all` answers is the test of all
module _ (test : ℕ → Bool) where
  all_pass : (xs : List ℕ) → AllWithin (λ y. true ≡ test y) xs 0 (length xs) → true ≡ list_all test xs
  all_pass [] h = refl
  all_pass (x ∷ xs) h = rw (← (h 0 x (omega arith) (omega arith))) (all_pass xs (λ k d l m. h (suc k) d (omega arith) (omega arith)))

  one_fails : (xs : List ℕ) (k : ℕ) → k < length xs → HoldsAt (λ y. false ≡ test y) xs k → false ≡ list_all test xs
  one_fails [] k h a = absurd (omega arith)
  one_fails (x ∷ xs) zero h a = rw (← (a x))
  one_fails (x ∷ xs) (suc k) h a = go (test x) (one_fails xs k (omega arith) a)
    where
      go : (b : Bool) → false ≡ list_all test xs → false ≡ (b && list_all test xs)
      go true e = e
      go false e = refl

  pub all_is : (r : Bool) (xs : List ℕ) → MatchBool r (AllWithin (λ y. true ≡ test y) xs 0 (length xs)) ((k : ℕ) × (k < length xs) × HoldsAt (λ y. false ≡ test y) xs k) → r ≡ list_all test xs
  all_is true xs h = all_pass xs h
  all_is false xs h = one_fails xs h.0 h.1 h.2

-- the fragments of a register, each with those after it
fragments_all : (limit : ℕ) (ws : List ℕ) (hi n lo : ℕ) → hi ≡ lo + n → hi ≤ length ws
    → list_all (λ k. fragment_good limit (get_or ws k 0) (between (k + 1) hi ws)) (range_with_len lo n) ≡ fragments_good limit (between lo hi ws)
unfolding fragments_good
fragments_all limit ws hi zero lo e h = let d : hi ≤ lo = omega arith in rw (between_none lo hi ws d)
fragments_all limit ws hi (suc n) lo e h =
    let d : lo < hi = omega arith in
    let rest = fragments_all limit ws hi n (lo + 1) (omega arith) h in
    rw (between_more lo hi ws d h, rest)

pub fragments_of : (limit : ℕ) (ws : List ℕ) (q : Range) (e : ℕ) → e ≡ range_end q → range_end q ≤ length ws
    → list_all (λ k. fragment_good limit (get_or ws k 0) (between (k + 1) e ws)) (range_with_len q.index (e - q.index)) ≡ fragments_good limit (part q ws)
fragments_of limit ws q e f h =
    let d : e - q.index ≡ q.count = omega arith in
    fragments_all limit ws e (e - q.index) q.index (omega arith) (omega arith) ∙ ap (λ n. fragments_good limit (take n (drop q.index ws))) d

-- a good range lies in its table
pub range_inside : (ranges : ℕ → Range) (n len k : ℕ) (q : Range) → q ≡ ranges k → true ≡ range_good ranges n len k → range_end q ≤ len
range_inside ranges n len k q e g =
    let y : leb (range_end (ranges k)) len ≡ true = and_right (eqb (ranges k).index (end_before ranges k)) (leb (range_end (ranges k)) len) (and_left _ (ltb (k + 1) n || eqb (range_end (ranges k)) len) (sym g)) in
    rw e (leb-true (range_end (ranges k)) len y)
