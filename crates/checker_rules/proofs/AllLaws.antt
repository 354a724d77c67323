-- `all` over the numbers of a range, with a closure that decides a statement of each, decides that the statement holds of them all.
-- Assumes nothing.
use Prim.Native.Nat.{ℕ, ◌+◌, ◌-◌, ◌<◌, ◌≤◌}
use mathlib.Core.List.{List}
use mathlib.Core.Path.{◌≡◌, refl, subst, sym}
use mathlib.Core.Bool.{Bool, true, false}
use native.Mathlib.Omega.{arith}
use lib.ListN.{length, get_or}
use denote.Param.Members.{Mut}
use Rattle.std.specs.declared.option.Option.{Option}
use Rattle.std.specs.declared.ops.Range.{Range}
use Rattle.std.specs.Iterator.{YieldsThen}
use Rattle.std.specs.Fn.{Called}
use Rattle.std.specs.Option.{MatchOption}
use Rattle.std.specs.Bool.{MatchBool}
use Rattle.std.specs.List.{FoldsTo, AllWithin, HoldsAt, range_with_len}
use Rattle.std.proofs.iter.Yields.{nat_range_steps}
use Rattle.std.proofs.lemmas.Iterator.{cases_from_all, YieldsList-from_range}
use Rattle.std.proofs.lemmas.List.FromFn.{length-range_with_len, get_or-range_with_len}
use Rattle.checker_rules.specs.Says.{Says}
use Rattle.checker_rules.proofs.SaysLaws.{says_true, says_false, says_same}

pub all_says : {F : Type 0} {g : Mut F (ℕ × Unit {0}) Bool} {s : Range ℕ} (u : Range ℕ) (f : F) (r : Bool) (a z : ℕ) (Q : ℕ → Type 0)
    → (xs : List ℕ) × (o : Option ℕ) × (j : F) × YieldsThen nat_range_steps s xs o u × FoldsTo (λ p x q. Called g p (x, tt) true q) f xs j × MatchOption o (r ≡ true) (λ x. (r ≡ false) × ((h : F) × Called g j (x, tt) false h))
    → s ≡ record { start = a; end = z }
    → ((k : ℕ) (b : Bool) (q : F) → Called g f (k, tt) b q → (q ≡ f) × Says b (Q k))
    → Says r ((k : ℕ) → a ≤ k → k < z → Q k)
all_says {F} {g} {s} u f r a z Q d e t =
    by r
    (cases_from_all u f r Q (λ k. Q k → ⊥) d (YieldsList-from_range a z (z - a) e refl)
    (λ k q c. let v = t k true q c in (v.0, v.1.holds refl))
    (λ k q c. let v = t k false q c in v.1.fails refl))
  where
    at : (k : ℕ) → k < z - a → get_or (range_with_len a (z - a)) k 0 ≡ a + k
    at k h = get_or-range_with_len a (z - a) k 0 h

    by : (r : Bool) → MatchBool r (AllWithin Q (range_with_len a (z - a)) 0 (length (range_with_len a (z - a)))) ((k : ℕ) × (k < length (range_with_len a (z - a))) × HoldsAt (λ k. Q k → ⊥) (range_with_len a (z - a)) k)
        → Says r ((k : ℕ) → a ≤ k → k < z → Q k)
    by true h =
        says_true
        (λ k l m.
        let e : get_or (range_with_len a (z - a)) (k - a) 0 ≡ k = omega (arith, at (k - a) (omega arith)) in
        subst Q e (h (k - a) 0 (omega arith) (omega (arith, length-range_with_len a (z - a)))))
    by false h =
        says_false
        (λ all.
        let l : h.0 < z - a = omega (arith, h.1, length-range_with_len a (z - a)) in
        h.2 0 (subst Q (sym (at h.0 l)) (all (a + h.0) (omega arith) (omega arith))))

-- from 0 on
pub all_below : {F : Type 0} {g : Mut F (ℕ × Unit {0}) Bool} {s : Range ℕ} (u : Range ℕ) (f : F) (r : Bool) (n : ℕ) (Q : ℕ → Type 0)
    → (xs : List ℕ) × (o : Option ℕ) × (j : F) × YieldsThen nat_range_steps s xs o u × FoldsTo (λ p x q. Called g p (x, tt) true q) f xs j × MatchOption o (r ≡ true) (λ x. (r ≡ false) × ((h : F) × Called g j (x, tt) false h))
    → s ≡ record { start = 0; end = n }
    → ((k : ℕ) (b : Bool) (q : F) → Called g f (k, tt) b q → (q ≡ f) × Says b (Q k))
    → Says r ((k : ℕ) → k < n → Q k)
all_below u f r n Q d e t = says_same (λ h k l. h k (omega arith) l) (λ h k _ l. h k l) (all_says u f r 0 n Q d e t)
