-- Laws of check 4: the test of one class, and the running sum of the counts.
-- Assumes nothing.
use Prim.Native.Nat.{ℕ, zero, suc, ◌+◌, ◌≤◌, ◌<◌}
use mathlib.Core.Path.{◌≡◌, refl, sym, ap, ◌∙◌}
use mathlib.Core.List.{List, [], ◌∷◌}
use native.Mathlib.Nat.{not-suc-le-zero, le_of_suc-le-suc}
use native.Mathlib.Omega.{arith}
use native.Mathlib.Numerals.{add-one}
use lib.ListN.{length, get_or, take}
use lib.Seq.{take_all}
use Rattle.words.specs.Packed.{class_in, class_at}
use Rattle.words.proofs.Field.{bits_lt}
use Rattle.words.specs.declared.Class.{Class}
use Rattle.rules.specs.Sound.{count_sum}
use Rattle.tables.specs.Entries.{Summed}

-- the counts of one class more
take_count : (cs : List ℕ) (k : ℕ) → k < length cs → count_sum (take (k + 1) cs) ≡ count_sum (take k cs) + (class_in (get_or cs k 0)).count
unfolding count_sum
take_count [] k h = absurd (not-suc-le-zero h)
take_count (x ∷ cs) zero h = omega arith
take_count (x ∷ cs) (suc k) h =
    let ih : count_sum (take (suc k) cs) ≡ count_sum (take k cs) + (class_in (get_or cs k 0)).count = rw (add-one k) at (take_count cs k (le_of_suc-le-suc h)) in
    rw (add-one (suc k)) (omega arith)

-- with the last class's count the sum is that of all
pub sum_of_all : (cs : List ℕ) (k sum : ℕ) (c : Class) → k < length cs → length cs ≤ k + 1 → Summed cs k sum → c ≡ class_at cs k → sum + c.count ≡ count_sum cs
sum_of_all cs k sum c h l m e = rw (e, m.is) (sym (take_count cs k h) ∙ ap count_sum (take_all (k + 1) cs l))

-- the running sum
pub sum_starts : (cs : List ℕ) → Summed cs 0 0
unfolding count_sum
sum_starts cs = record { is = refl; small = omega arith }

pub sum_more : (cs : List ℕ) (k sum : ℕ) (c : Class) → k < length cs → Summed cs k sum → c ≡ class_at cs k → Summed cs (k + 1) (sum + c.count)
sum_more cs k sum c h m e =
    let n : c.count ≡ (class_at cs k).count = ap (λ (x : Class). x.count) e in
    record {
      is = omega (arith, m.is, take_count cs k h);
      small = omega (arith, bits_lt 16 8 (get_or cs k 0));
    }
