-- Positions by register, as rows of an array: document 01, steps 2 and 4. Facts for contracts.
use Rattle.std.specs.Prelude.{ℕ, zero, suc, ◌+◌, ◌≤◌, ◌<◌, ◌≡◌, Bool, true, false, ◌&&◌, not, List, ◌⊎◌, get_or, eqb}
use Rattle.words.specs.Choose.{choose}
use Rattle.words.specs.Packed.{register_at, part}
use Rattle.rules.specs.declared.Pos.{Pos}
use Rattle.rules.specs.declared.Pos.TheVariants.{Blocked, At, Never}
use Rattle.rules.specs.Steps.{Choice}
use Rattle.rules.specs.Positions.{below}
use Rattle.rules.specs.Steps.{pos_of, offer}
use Rattle.activity.specs.Fixed.{fixed_pos}
use Rattle.rules.specs.declared.RegPos.{RegPos}

-- the position of register r in a row
abbrev pub pos_in : List Pos → ℕ → Pos
pos_in row r = get_or row r Blocked

-- register r at position p, where it lies above the best so far and is not scratch
unfoldable pub better : ℕ → Choice → ℕ → Pos → Choice
better scratch best r p = choose (not (eqb r scratch) && below (pos_of best) p) (offer r p) best

-- the entry that no register has
abbrev pub no_entry : RegPos
no_entry = record { register = 0; pos = Blocked }

-- register r of a row, with its position
abbrev pub entry_at : List Pos → ℕ → RegPos
entry_at row r = record { register = r; pos = pos_in row r }

-- the furthest of n entries from i on, the first of them on ties, never scratch, and the best so far
unfoldable pub furthest_entry : List RegPos → ℕ → ℕ → ℕ → Choice → Choice
furthest_entry es scratch i zero best = best
furthest_entry es scratch i (suc n) best = furthest_entry es scratch (suc i) n (better scratch best (get_or es i no_entry).register (get_or es i no_entry).pos)

-- the position that none lies above
abbrev pub is_never : Pos → Bool
is_never Blocked = false
is_never (At x) = false
is_never Never = true

-- a class's registers have the positions that their fragments give, the others are as they were
pub record FixedRow (rs fs : List ℕ) (first count S end : ℕ) (row row' : List Pos) : Type 0 where
  pub held : (r : ℕ) → first ≤ r → r < first + count → pos_in row' r ≡ fixed_pos S end (part (register_at rs r) fs)
  pub other : (r : ℕ) → (r < first) ⊎ (first + count ≤ r) → pos_in row' r ≡ pos_in row r
