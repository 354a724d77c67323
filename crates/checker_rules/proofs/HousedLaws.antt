-- Rule 2: by rule 1 each point of a mention lies in exactly one record, so that the record which holds one point must hold them all.
-- Assumes nothing.
use Prim.Native.Nat.{ℕ, ◌+◌, ◌*◌, ◌<◌, ◌≤◌}
use mathlib.Core.List.{List}
use mathlib.Core.Path.{◌≡◌, refl, sym, ◌∙◌}
use mathlib.Core.Bool.{Bool, true, false, not}
use mathlib.Core.Logic.{◌⊎◌, inl, inr}
use lib.Dec.{leb}
use borrow.Author.Tests.{not-false}
use native.Mathlib.Omega.{arith}
use native.Mathlib.Decide.{dec_lt}
use lib.ListN.{get_or}
use Rattle.words.specs.Packed.{interval_count}
use Rattle.checker_rules.specs.Says.{Says}
use Rattle.checker_rules.specs.Entries.{kind_of, interval_of, first_of, last_of, mentions_from, mentions_to}
use Rattle.checker_rules.specs.Tiles.{Tiling, Once}
use Rattle.checker_rules.specs.Housed.{instruction_in, Point, Pointed, Lowest, Highest, Held, Whole, FitsIn, Row, Rows, Fits, Housed, Housing}
use Rattle.checker_rules.specs.Decides.{Decides2}
use Rattle.checker_rules.proofs.SaysLaws.{says_true, says_false, says_same, says_le}
use Rattle.checker_rules.proofs.BridgeLaws.{decides_2}

-- a mention's points are its instruction's
pub bounds : (w p : ℕ) → Point w p → (2 * instruction_in w ≤ p) × (p ≤ 2 * instruction_in w + 1)
bounds w p (inl a) = (omega (arith, a.0), omega (arith, a.0))
bounds w p (inr a) = (omega (arith, a.0), omega (arith, a.0))

-- one mention and one record
module _ (kind first last w a b : ℕ) (lo : Lowest w a) (hi : Highest w b) where
  pub whole_apart : (last < a) ⊎ ((a ≤ last) × (b < first)) → Says true (Whole kind first last w)
  whole_apart h = says_true record { held = λ p o u v. absurd (none h p o u v) }
    where
      none : (last < a) ⊎ ((a ≤ last) × (b < first)) → (p : ℕ) → Point w p → first ≤ p → p ≤ last → ⊥
      none (inl c) p o u v = omega (arith, lo.least p o)
      none (inr c) p o u v = omega (arith, hi.most p o, c.1)

  -- the lowest point or the highest lies in the record
  touch : a ≤ last → first ≤ b → first ≤ last → Whole kind first last w → Held kind first last w
  touch u v o h = go (dec_lt a first)
    where
      near : b ≤ a + 1
      near = omega (arith, bounds w a lo.is, bounds w b hi.is)

      go : Dec (a < first) → Held kind first last w
      go (yes c) = h.held b hi.is v (omega (arith, near))
      go (no c) = h.held a lo.is (omega arith) u

  module _ (o : first ≤ last) (t : (a ≤ last) × (first ≤ b)) where
    pub whole_not : (r : Bool) → r ≡ false → ((kind ≡ 1) × (a < first)) ⊎ (kind ≡ 1 → ⊥) → Says r (Whole kind first last w)
    whole_not r e f = rw e (says_false (λ h. no f (touch t.0 t.1 o h)))
      where
        no : ((kind ≡ 1) × (a < first)) ⊎ (kind ≡ 1 → ⊥) → Held kind first last w → ⊥
        no (inl c) h = omega (arith, h.from a lo.is, c.1)
        no (inr n) h = n h.kind

    pub whole_last : (kind ≡ 1) × (first ≤ a) → Says (leb b last) (Whole kind first last w)
    whole_last k =
        says_le b last
        (λ d. record { held = λ _ _ _ _. record { kind = k.0; from = λ p o. omega (arith, lo.least p o, k.1); to = λ p o. omega (arith, hi.most p o) } })
        (λ d h. omega (arith, (touch t.0 t.1 o h).to b hi.is))

-- the mentions of one interval
pub record FitsTo (ms : List ℕ) (lo hi kind first last m : ℕ) : Type 0 where
  pub sofar : (i : ℕ) → lo ≤ i → i < m → Whole kind first last (get_or ms i 0)
  pub from : lo ≤ m
  pub upto : m ≤ hi

module _ (ms : List ℕ) (lo hi kind first last : ℕ) where
  module _ (m w to : ℕ) (t : FitsTo ms lo hi kind first last m) (et : to ≡ hi) (ht : m < to) (e : w ≡ get_or ms m 0) where
    h : m < hi
    h = omega arith

    pub fits_past : (a : ℕ) → Row ms lo hi → Lowest w a → last < a → Says true (FitsIn ms lo hi kind first last)
    fits_past a r l c = says_true record { each = λ i x y. go i x y (dec_lt i m) }
      where
        later : (i : ℕ) → m < i → i < hi → (p : ℕ) → Point (get_or ms i 0) p → last < p
        later i x y p o =
            let u : instruction_in (get_or ms m 0) < instruction_in (get_or ms i 0) = r.insts m i t.from x y in
            let v : instruction_in w < instruction_in (get_or ms i 0) = rw e u in
            omega (arith, bounds w a l.is, bounds (get_or ms i 0) p o)

        here : (p : ℕ) → Point (get_or ms m 0) p → last < p
        here p o = omega (arith, l.least p (rw e o))

        go : (i : ℕ) → lo ≤ i → i < hi → Dec (i < m) → Whole kind first last (get_or ms i 0)
        go i x y (yes z) = t.sofar i x z
        go i x y (no z) = record { held = λ p o u v. absurd (at (dec_lt m i) p o v) }
          where
            at : Dec (m < i) → (p : ℕ) → Point (get_or ms i 0) p → p ≤ last → ⊥
            at (yes q) p o v = omega (arith, later i q y p o)
            at (no q) p o v = let k : i ≡ m = omega arith in omega (arith, here p (rw k at o))

    pub fits_more : (b : Bool) → Says b (Whole kind first last w) → not b ≡ false → FitsTo ms lo hi kind first last (m + 1)
    fits_more b s q = record { sofar = λ i x y. go i x y (dec_lt i m); from = omega (arith, t.from); upto = omega arith }
      where
        go : (i : ℕ) → lo ≤ i → i < m + 1 → Dec (i < m) → Whole kind first last (get_or ms i 0)
        go i x y (yes z) = t.sofar i x z
        go i x y (no z) = let k : i ≡ m = omega arith in rw (k, ← e) (s.holds (not-false b q))

-- the rule
module _ (ws : List ℕ) (n : ℕ) (is ms : List ℕ) (t : Rows is ms) (r : Tiling ws n is) where
  housed_all : ((k : ℕ) → k < n → Fits ws is ms k) → Housing ws n is ms
  housed_all f = record { each = λ v m h a b. go v m h a b ((t.row v h).pointed m a b) }
    where
      go : (v m : ℕ) → v < interval_count is → mentions_from is v ≤ m → m < mentions_to is v → Pointed (get_or ms m 0) → Housed ws n v (get_or ms m 0)
      go v m h a b x =
          let i = t.inside v m x.at h a b x.is in
          let o : Once ws n v x.at = r.tiled.once v x.at h i.0 i.1 in
          let k : FitsIn ms (mentions_from is v) (mentions_to is v) (kind_of ws o.one) (first_of ws o.one) (last_of ws o.one)
          = rw o.covers.names at (f o.one o.covers.real).fits in
          record { by = o.one; real = o.covers.real; names = o.covers.names; held = (k.each m a b).held x.at x.is o.covers.from o.covers.to }

  fits_all : Housing ws n is ms → (k : ℕ) → k < n → Fits ws is ms k
  fits_all u k h = record { fits = record { each = λ m a b. record { held = λ p o c d. go m a b p o c d } } }
    where
      v : ℕ
      v = interval_of ws k

      go : (m : ℕ) → mentions_from is (interval_of ws k) ≤ m → m < mentions_to is (interval_of ws k) → (p : ℕ) → Point (get_or ms m 0) p → first_of ws k ≤ p → p ≤ last_of ws k
          → Held (kind_of ws k) (first_of ws k) (last_of ws k) (get_or ms m 0)
      go m a b p o c d =
          let names = (r.loose.each k h).names in
          let x = u.each (interval_of ws k) m names a b in
          let i = t.inside (interval_of ws k) m p names a b o in
          let once : Once ws n (interval_of ws k) p = r.tiled.once (interval_of ws k) p names i.0 i.1 in
          let e : x.by ≡ k =
          once.only x.by (record { real = x.real; names = x.names; from = x.held.from p o; to = x.held.to p o })
          ∙ sym (once.only k (record { real = h; names = refl; from = c; to = d })) in
          rw e at x.held

  pub rule2_of : (b : Bool) → Says b ((k : ℕ) → k < n → Fits ws is ms k) → Decides2 ws n is ms b
  rule2_of b d = decides_2 ws n is ms b (says_same housed_all fits_all d)
