-- How many entries of a list pass a test.
-- Assumes nothing.
use Prim.Native.Nat.{ℕ, suc, ◌≤◌}
use mathlib.Core.Bool.{Bool, true, false}
use mathlib.Core.List.{List, [], ◌∷◌}
use native.Mathlib.Omega.{arith}
use lib.ListN.{length}
use Rattle.words.specs.Choose.{choose}
use Rattle.rules.specs.Split.{count_of}

-- no more than there are
pub count_most : (f : ℕ → Bool) (l : List ℕ) → count_of f l ≤ length l
unfolding count_of
count_most f [] = omega arith
count_most f (x ∷ l) = go (f x) (count_most f l)
  where
    go : (b : Bool) → count_of f l ≤ length l → choose b (suc (count_of f l)) (count_of f l) ≤ suc (length l)
    go true h = omega arith
    go false h = omega arith
