-- Facts for contracts: searching a table whose words ascend.
use Rattle.std.specs.Prelude.{ℕ, ◌<◌, ◌≤◌, List, get_or, length}

-- the words at lo..hi, the end left out, ascend strictly
pub record Rising (table : List ℕ) (lo hi : ℕ) : Type 0 where
  pub up : (i j : ℕ) → lo ≤ i → i < j → j < hi → get_or table i 0 < get_or table j 0
  pub order : lo ≤ hi
  pub within : hi ≤ length table

-- what lies before a is below x, what lies from b on is not
pub record Seeking (table : List ℕ) (lo hi x a b : ℕ) : Type 0 where
  pub from : lo ≤ a
  pub mid : a ≤ b
  pub to : b ≤ hi
  pub below : (i : ℕ) → lo ≤ i → i < a → get_or table i 0 < x
  pub above : (i : ℕ) → b ≤ i → i < hi → x ≤ get_or table i 0

-- r is the first index of lo..hi whose word is at least x, or hi
abbrev pub Lower : List ℕ → ℕ → ℕ → ℕ → ℕ → Type 0
Lower table lo hi x r = Seeking table lo hi x r r
