-- The first safepoint of a run.
-- Assumes nothing.
use Rattle.std.specs.Prelude.{None, Some}
use Prim.Native.Nat.{ℕ, suc, ◌-◌}
use mathlib.Core.Path.{◌≡◌, refl}
use mathlib.Core.List.{List, [], ◌∷◌, tail}
use native.Mathlib.Omega.{arith}
use lib.ListN.{get_or}
use lib.Seq.{drop-cons}
use Rattle.words.specs.declared.Range.{Range}
use Rattle.words.specs.Packed.{part}
use Rattle.uses.specs.Runs.{Ascending}
use Rattle.uses.specs.Safepoints.{head_of}

-- a run of nothing has no first, any other has its first entry
pub first_missing : (r : Range) (l : List ℕ) → r.count ≡ 0 → None ≡ head_of (part r l)
first_missing r l e = rw e

pub first_is : (r : Range) (l : List ℕ) → Ascending r l → (r.count ≡ 0 → ⊥) → Some (get_or l r.index 0) ≡ head_of (part r l)
first_is r l up h =
    let e : r.count ≡ suc (r.count - 1) = omega arith in
    rw (drop-cons l r.index 0 (omega arith), e)

-- what a head says of its list
pub head_missing : (l : List ℕ) → head_of l ≡ None → l ≡ []
head_missing [] e = refl
head_missing (x ∷ l) e = cc

pub head_is : (l : List ℕ) (x : ℕ) → head_of l ≡ Some x → l ≡ x ∷ tail l
head_is [] x e = cc
head_is (y ∷ l) x e = let h : y ≡ x = cc in rw h
