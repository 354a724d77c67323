-- Facts for contracts: the points of one mention word.
use Rattle.std.specs.Prelude.{ℕ, ◌<◌, ◌≡◌, Bool, List, [], ◌∷◌}
use Rattle.words.specs.Choose.{choose}
use Rattle.words.specs.Packed.{mention_in}
use Rattle.rules.specs.Uses.{points_in}
use Rattle.rules.specs.Split.{any_below}

-- the instruction of a word, which has points
pub record Numbered (w n : ℕ) : Type 0 where
  pub is : n ≡ (mention_in w).instruction
  pub below : n < 32768

-- one point, if it is there: `points_in` of a mention is two of these
abbrev pub dot : Bool → ℕ → List ℕ
dot there x = choose there (x ∷ []) []

-- "mentions with a point below p stay": the test of `staying_mentions`
abbrev pub stays_below : ℕ → ℕ → Bool
stays_below p = λ w. any_below p (points_in (mention_in w))
