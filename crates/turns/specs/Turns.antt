-- A fact for contracts: a turn moves on.
use Rattle.std.specs.Prelude.{ℕ, ◌≤◌, ◌<◌}
use Rattle.cases.specs.declared.Cursor.{Cursor}

-- a place further on, in a text of n bytes
pub record Onto (at n : ℕ) (c : Cursor) : Type 0 where
  pub later : at < c.at
  pub within : c.at ≤ n
