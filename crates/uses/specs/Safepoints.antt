-- Facts for contracts: the first safepoint of a run.
use Rattle.std.specs.Prelude.{ℕ, Bool, List, [], ◌∷◌, ltb, Option, None, Some}
use Rattle.words.specs.Points.{use_point}

-- "its first safepoint s"
abbrev pub head_of : List ℕ → Option ℕ
head_of [] = None
head_of (x ∷ xs) = Some x

-- "safepoints with Use below p stay": the test of `staying_safepoints`
abbrev pub use_below : ℕ → ℕ → Bool
use_below p = λ s. ltb (use_point s) p
