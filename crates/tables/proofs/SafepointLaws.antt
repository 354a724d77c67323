-- Laws of check 7: in mentions that ascend, at most one is at an instruction, and a search of their words finds it.
-- Assumes nothing.
use Prim.Native.Nat.{ℕ, zero, suc, ◌+◌, ◌-◌, ◌*◌, ◌/◌, ◌^◌, ◌≤◌, ◌<◌}
use mathlib.Core.Path.{◌≡◌, refl, sym, ap, ◌∙◌}
use mathlib.Core.Bool.{Bool, true, false, ◌&&◌, ◌||◌, not}
use mathlib.Core.List.{List, [], ◌∷◌}
use native.Mathlib.Nat.{not-suc-le-zero, le_of_suc-le-suc}
use native.Mathlib.Omega.{arith}
use native.Mathlib.Decide.{dec_lt}
use lib.ListN.{length, get_or}
use lib.Seq.{get_or-take, get_or-drop}
use lib.Dec.{eqb}
use borrow.Author.Tests.{ne_eqb}
use mir.Syntax.{w32}
use mir.Val.{Fits}
use Rattle.words.specs.Packed.{mention_in, part}
use Rattle.words.specs.declared.Range.{Range}
use Rattle.words.specs.declared.Mention.{Mention}
use Rattle.rules.specs.Sound.{every, range_end, not_used_alone}
use Rattle.rules.proofs.AcceptedLaws.{part_long}
use Rattle.seek.specs.Seek.{Rising, Lower}
use Rattle.tables.specs.Entries.{Ascending}

-- a test that every entry passes
every_all : (f : ℕ → Bool) (l : List ℕ) → ((n : ℕ) → n < length l → f (get_or l n 0) ≡ true) → true ≡ every f l
unfolding every
every_all f [] h = refl
every_all f (x ∷ l) h = rw (h 0 (omega arith)) (every_all f l (λ n k. h (suc n) (omega arith)))

-- a test that every entry but entry k passes
every_but : (f : ℕ → Bool) (l : List ℕ) (k : ℕ) → k < length l → ((n : ℕ) → n < length l → (n ≡ k → ⊥) → f (get_or l n 0) ≡ true) → f (get_or l k 0) ≡ every f l
unfolding every
every_but f [] k h g = absurd (not-suc-le-zero h)
every_but f (x ∷ l) zero h g = go (f x) (every f l) (every_all f l (λ n k. g (suc n) (omega arith) (λ e. omega arith)))
  where
    go : (a b : Bool) → true ≡ b → a ≡ (a && b)
    go true b e = e
    go false b e = refl
every_but f (x ∷ l) (suc k) h g = rw (g 0 (omega arith) (λ e. omega arith)) (every_but f l k (le_of_suc-le-suc h) (λ n m d. g (suc n) (omega arith) (λ e. d (omega arith))))

-- the instruction of a word of 32 bits is its quotient
instruction_is : (w : ℕ) → w < 2 ^ 32 → (mention_in w).instruction ≡ w / 2 ^ 17
instruction_is w h = omega arith

-- entry n of a range, by the table
part_entry : (q : Range) (l : List ℕ) (n : ℕ) → n < q.count → get_or (part q l) n 0 ≡ get_or l (q.index + n) 0
part_entry q l n h = get_or-take q.count _ n 0 h ∙ get_or-drop q.index l n 0

-- a mention at another instruction is no use alone at s
elsewhere : (s w : ℕ) → ((mention_in w).instruction ≡ s → ⊥) → not_used_alone s w ≡ true
elsewhere s w h = rw (ne_eqb (mention_in w).instruction s h)

module _ (ms : List ℕ) (q : Range) (up : Ascending ms q) (words : (k : ℕ) → Fits w32 (get_or ms k 0)) where
  small : (k : ℕ) → get_or ms k 0 < 2 ^ 32
  small k = (words k).fits

  -- mentions that ascend by instruction ascend as words
  pub words_rise : (hi : ℕ) → hi ≡ range_end q → Rising ms q.index hi
  words_rise hi e =
      record {
        up = λ i j h l m. let a = up.up i j (omega arith, omega arith) (omega arith, omega arith) l in omega (arith, small i, small j, instruction_is (get_or ms i 0) (small i), instruction_is (get_or ms j 0) (small j));
        order = omega arith;
        within = omega (arith, up.inside);
      }

  -- what the search has below it is before instruction s
  before_there : (hi s r : ℕ) → Lower ms q.index hi (s * 131072) r → (n : ℕ) → q.index + n < r → not_used_alone s (get_or ms (q.index + n) 0) ≡ true
  before_there hi s r l n h =
      let w : ℕ = get_or ms (q.index + n) 0 in
      elsewhere s w (λ e. omega (arith, e, l.below (q.index + n) (omega arith) h, instruction_is w (small (q.index + n))))

  -- where it ends at the end, no mention is at s
  pub none_there : (hi s r : ℕ) → hi ≡ range_end q → Lower ms q.index hi (s * 131072) r → hi ≤ r → true ≡ every (not_used_alone s) (part q ms)
  none_there hi s r e l h = every_all (not_used_alone s) (part q ms) each
    where
      each : (n : ℕ) → n < length (part q ms) → not_used_alone s (get_or (part q ms) n 0) ≡ true
      each n k =
          let c : n < q.count = omega (arith, part_long q ms up.inside) in
          ap (not_used_alone s) (part_entry q ms n c) ∙ before_there hi s r l n (omega arith)

  -- else the mention that it finds is the only one that may be at s
  pub one_there : (hi s r : ℕ) (m : Mention) → hi ≡ range_end q → Lower ms q.index hi (s * 131072) r → r < hi → m ≡ mention_in (get_or ms r 0)
      → (not (eqb m.instruction s && m.uses) || (m.mods || m.defs)) ≡ every (not_used_alone s) (part q ms)
  one_there hi s r m e l h f =
      ap (λ (x : Mention). not (eqb x.instruction s && x.uses) || (x.mods || x.defs)) f
      ∙ ap (λ (k : ℕ). not_used_alone s (get_or ms k 0)) (sym there)
      ∙ sym (ap (not_used_alone s) (part_entry q ms at inside))
      ∙ every_but (not_used_alone s) (part q ms) at (omega (arith, part_long q ms up.inside)) each
    where
      at : ℕ
      at = r - q.index

      inside : at < q.count
      inside = omega (arith, l.from)

      there : q.index + at ≡ r
      there = omega (arith, l.from)

      after : (n : ℕ) → n < q.count → at < n → not_used_alone s (get_or ms (q.index + n) 0) ≡ true
      after n c d =
          let a = up.up r (q.index + n) (omega (arith, l.from), omega arith) (omega arith, omega arith) (omega arith) in
          elsewhere s (get_or ms (q.index + n) 0) (λ g. omega (arith, g, l.above r (omega arith) h, instruction_is (get_or ms r 0) (small r), a))

      each : (n : ℕ) → n < length (part q ms) → (n ≡ at → ⊥) → not_used_alone s (get_or (part q ms) n 0) ≡ true
      each n k d = ap (not_used_alone s) (part_entry q ms n c) ∙ go (dec_lt n at)
        where
          c : n < q.count
          c = omega (arith, part_long q ms up.inside)

          go : Dec (n < at) → not_used_alone s (get_or ms (q.index + n) 0) ≡ true
          go (yes g) = before_there hi s r l n (omega arith)
          go (no g) = after n c (omega arith)
