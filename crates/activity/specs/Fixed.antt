-- The fragments of a register, and the position that they give: document 01, steps 1, 2 and 4, put together from rules' definitions. Facts for contracts.
use Rattle.std.specs.Prelude.{ℕ, ◌+◌, ◌≤◌, ◌<◌, List, length, get_or}
use Rattle.words.specs.Choose.{choose}
use Rattle.words.specs.declared.Range.{Range}
use Rattle.words.specs.Packed.{register_at, fragment_in}
use Rattle.rules.specs.declared.Pos.{Pos}
use Rattle.rules.specs.declared.Pos.TheVariants.{Blocked}
use Rattle.rules.specs.Accepted.{InRange}
use Rattle.rules.specs.Steps.{fixed_active, first_start}

-- where the fragments of register r end in the table
abbrev pub stop_in : Range → ℕ
stop_in range = range.index + range.count

abbrev pub stop_of : List ℕ → ℕ → ℕ
stop_of rs r = stop_in (register_at rs r)

-- the first and the last point of fragment f
abbrev pub first_at : List ℕ → ℕ → ℕ
first_at fs f = (fragment_in (get_or fs f 0)).first

abbrev pub last_at : List ℕ → ℕ → ℕ
last_at fs f = (fragment_in (get_or fs f 0)).last

-- "blocked if fixed-active, else .. its first fragment start in S..end, never if neither exists", of the fragments of one register
unfoldable pub fixed_pos : ℕ → ℕ → List ℕ → Pos
fixed_pos S end ws = choose (fixed_active S ws) Blocked (first_start S end ws)

-- sound fixed tables, by the two tables alone (rules' Limits and FixedSound)
pub record Fixed (rs fs : List ℕ) : Type 0 where
  pub few : length rs ≤ 64
  pub small : length fs ≤ 8192
  pub inside : (r : ℕ) → r < length rs → stop_of rs r ≤ length fs
  pub ordered : (r f : ℕ) → r < length rs → InRange (register_at rs r) f → first_at fs f ≤ last_at fs f
  pub ascending : (r f k : ℕ) → r < length rs → InRange (register_at rs r) f → InRange (register_at rs r) k → f < k → last_at fs f < first_at fs k

-- a cursor of one range at start S: what lies before it ends before S, what stands there does not
pub record Faced (fs : List ℕ) (range : Range) (cursor S : ℕ) : Type 0 where
  pub inside : stop_in range ≤ length fs
  pub low : range.index ≤ cursor
  pub high : cursor ≤ stop_in range
  pub ordered : (f : ℕ) → InRange range f → first_at fs f ≤ last_at fs f
  pub ascending : (f k : ℕ) → InRange range f → InRange range k → f < k → last_at fs f < first_at fs k
  pub past : (f : ℕ) → InRange range f → f < cursor → last_at fs f < S
  pub here : cursor < stop_in range → S ≤ last_at fs cursor
