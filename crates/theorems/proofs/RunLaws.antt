-- A run of table indices and an extent: one law for mentions and safepoints.
-- Assumes nothing.
use Prim.Native.Nat.{ℕ, ◌-◌, ◌≤◌, ◌<◌}
use native.Mathlib.Omega.{arith}
use native.Mathlib.Decide.{dec_lt}
use Rattle.theorems.specs.Invariant.{Run}

-- the points of the entries a..b ascend
pub record Rising (f l : ℕ → ℕ) (a b : ℕ) : Type 0 where
  pub up : (i : ℕ) → a ≤ i → i < b → f i ≤ l i
  pub asc : (i j : ℕ) → a ≤ i → i < j → j < b → l i < f j

-- c parts lo..hi: below it the entries begin below p, from it on they do not
pub record CutAt (f : ℕ → ℕ) (p lo hi c : ℕ) : Type 0 where
  pub low : lo ≤ c
  pub high : c ≤ hi
  pub below : (i : ℕ) → lo ≤ i → i < c → f i < p
  pub above : (i : ℕ) → c ≤ i → i < hi → p ≤ f i

-- an entry that begins inside the extent is in the run
pub run_has : {f l : ℕ → ℕ} {a b s e lo hi : ℕ} → Rising f l a b → Run f l a b s e lo hi → (i : ℕ) → a ≤ i → i < b → s ≤ f i → f i ≤ e → (lo ≤ i) × (i < hi)
run_has {f} {l} {a} {b} {s} {e} {lo} {hi} w r i x y u v = go (dec_lt i lo) (dec_lt i hi)
  where
    go : Dec (i < lo) → Dec (i < hi) → (lo ≤ i) × (i < hi)
    go (yes d) g = absurd (omega (arith, r.before i x d, w.up i x y))
    go (no d) (yes g) = (omega arith, g)
    go (no d) (no g) = absurd (omega (arith, r.after i (omega arith) y))

module _ {f l : ℕ → ℕ} {a b s e lo hi p c : ℕ} (r : Run f l a b s e lo hi) (h : s < p) (k : p ≤ e) (nt : (i : ℕ) → lo ≤ i → i < hi → f i < p → l i < p) (x : CutAt f p lo hi c) where
  -- what stays with the parent, s..p - 1
  pub run_parent : Run f l a b s (p - 1) lo c
  run_parent =
      record {
        low = r.low;
        mid = x.low;
        high = omega (arith, r, x);
        before = r.before;
        starts = λ i u v. r.starts i u (omega (arith, r, x));
        ends = λ i u v. omega (arith, nt i u (omega (arith, x)) (x.below i u v));
        after = λ i u v. elim (dec_lt i hi) [
          | yes d ↦ omega (arith, x.above i u d)
          | no d ↦ omega (arith, r.after i (omega arith) v)
        ];
      }

  -- what goes to the child, p..e
  pub run_child : Run f l a b p e c hi
  run_child =
      record {
        low = omega (arith, r, x);
        mid = x.high;
        high = r.high;
        before = λ i u v. elim (dec_lt i lo) [
          | yes d ↦ omega (arith, r.before i u d)
          | no d ↦ nt i (omega arith) (omega (arith, x)) (x.below i (omega arith) v)
        ];
        starts = λ i u v. x.above i u v;
        ends = λ i u v. r.ends i (omega (arith, x)) v;
        after = r.after;
      }
