-- A fact for contracts: what the code leans on of every piece, on accepted tables.
use Rattle.std.specs.Prelude.{ℕ, ◌<◌, List, length, get_or}
use Rattle.rules.specs.declared.Piece.{Piece}
use Rattle.rules.specs.State.{no_piece}
use Rattle.uses.specs.Runs.{Rising, Ascending}

-- a piece's mentions and safepoints rise inside their tables
pub record PieceFits (ms ss : List ℕ) (q : Piece) : Type 0 where
  pub mentions : Rising q.mentions ms
  pub safepoints : Ascending q.safepoints ss

-- every piece fits
pub record Fit (ms ss : List ℕ) (ps : List Piece) : Type 0 where
  pub each : (k : ℕ) → k < length ps → PieceFits ms ss (get_or ps k no_piece)
