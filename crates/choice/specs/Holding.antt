-- What the active pieces put into a class's row: document 01, steps 2 and 4. Facts for contracts.
use Rattle.std.specs.Prelude.{ℕ, ◌+◌, ◌≤◌, ◌<◌, ◌≡◌, ◌&&◌, List, length, leb, ltb, Option, None, Some}
use Rattle.words.specs.Choose.{choose}
use Rattle.words.specs.Packed.{part, register_at}
use Rattle.rules.specs.declared.Piece.{Piece}
use Rattle.rules.specs.declared.Place.{Place}
use Rattle.rules.specs.declared.Place.TheVariants.{Nowhere, Register, Slot}
use Rattle.rules.specs.declared.Pos.{Pos}
use Rattle.rules.specs.declared.Pos.TheVariants.{Blocked, Never}
use Rattle.rules.specs.Positions.{lower_of}
use Rattle.rules.specs.State.{Given, State, piece}
use Rattle.rules.specs.Uses.{mention_points, next_use}
use Rattle.rules.specs.Steps.{is_held, holder, pos_of_use, free_until, next_use_pos}
use Rattle.uses.specs.Runs.{Rising}
use Rattle.activity.specs.Bits.{has_bit}
use Rattle.activity.specs.Fixed.{fixed_pos}
use Rattle.choice.specs.Row.{pos_in}

-- the register of a place, if it is one of first..stop
unfoldable pub seat_of : ℕ → ℕ → Place → Option ℕ
seat_of first stop Nowhere = None
seat_of first stop (Register x) = choose (leb first x && ltb x stop) (Some x) None
seat_of first stop (Slot t) = None

-- 4. "its active piece's next use from S"
unfoldable pub use_of : List ℕ → State → ℕ → Option ℕ → Pos
use_of ms s S None = Never
use_of ms s S (Some j) = pos_of_use (next_use S (mention_points (part (piece s j).mentions ms)))

-- 4. "the least of its active piece's next use from S and" what the row says
unfoldable pub next_pos : List ℕ → State → ℕ → List Pos → ℕ → Option ℕ → Pos
next_pos ms s S row r h = lower_of (use_of ms s S h) (pos_in row r)

-- each register of a class has the position that F gives it by its holder
pub record HolderRow (F : ℕ → Option ℕ → Pos) (s : State) (first count : ℕ) (row : List Pos) : Type 0 where
  pub is : (r : ℕ) → first ≤ r → r < first + count → pos_in row r ≡ F r (holder s r)

-- the registers that active pieces hold, a bit for each
pub record HeldMask (s : State) (m : ℕ) : Type 0 where
  pub is : (r : ℕ) → r < 64 → has_bit m r ≡ is_held (holder s r)

-- 2. "blocked if an active piece .. holds it, else" what its fragments say
pub record OpenRow (rs fs : List ℕ) (first count S end m : ℕ) (row : List Pos) : Type 0 where
  pub is : (r : ℕ) → first ≤ r → r < first + count → pos_in row r ≡ choose (has_bit m r) Blocked (fixed_pos S end (part (register_at rs r) fs))

-- .. where none of the class has a fragment ahead
pub record UnfixedRow (first count m : ℕ) (row : List Pos) : Type 0 where
  pub is : (r : ℕ) → first ≤ r → r < first + count → pos_in row r ≡ choose (has_bit m r) Blocked Never

-- the mentions of every piece are in order
pub record Runs (s : State) (ms : List ℕ) : Type 0 where
  pub rising : (k : ℕ) → k < length s.pieces → Rising (piece s k).mentions ms

-- a class's row of free-until positions, whatever the other tables are
pub record FreeRow (rs fs : List ℕ) (s : State) (q : Piece) (first count : ℕ) (row : List Pos) : Type 0 where
  pub is : (g : Given) → g.tables.registers ≡ rs → g.tables.fragments ≡ fs → (r : ℕ) → first ≤ r → r < first + count → pos_in row r ≡ free_until g s q r

-- and of next-use positions
pub record NextRow (rs fs ms : List ℕ) (s : State) (q : Piece) (first count : ℕ) (row : List Pos) : Type 0 where
  pub is : (g : Given) → g.tables.registers ≡ rs → g.tables.fragments ≡ fs → g.tables.mentions ≡ ms → (r : ℕ) → first ≤ r → r < first + count
      → pos_in row r ≡ next_use_pos g s q r
