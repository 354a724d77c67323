-- A class's row, filled register by register. Assumes nothing.
use Prim.Native.Nat.{ℕ, ◌+◌, ◌≤◌, ◌<◌}
use mathlib.Core.Path.{◌≡◌}
use mathlib.Core.List.{List}
use mathlib.Core.Logic.{◌⊎◌}
use lib.ListN.{length}
use Rattle.words.specs.Packed.{register_at, part}
use Rattle.rules.specs.declared.Pos.{Pos}
use Rattle.activity.specs.Fixed.{fixed_pos}
use Rattle.choice.specs.Row.{pos_in}

-- the registers before r are filled
pub record Filling (rs fs : List ℕ) (first count S end : ℕ) (row b : List Pos) (r : ℕ) : Type 0 where
  pub held : (k : ℕ) → first ≤ k → k < r → pos_in b k ≡ fixed_pos S end (part (register_at rs k) fs)
  pub other : (k : ℕ) → (k < first) ⊎ (r ≤ k) → pos_in b k ≡ pos_in row k
  pub long : length b ≡ 64
  pub low : first ≤ r
  pub upto : r ≤ first + count
