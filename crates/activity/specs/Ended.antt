-- Document 01, step 1: "drop ended and spilled pieces", in the work area (facts for contracts).
use Rattle.std.specs.Prelude.{ℕ, ◌+◌, ◌*◌, ◌≤◌, ◌<◌, ◌≡◌, Bool, ◌&&◌, List, length, get_or, set, leb}
use Rattle.words.specs.Choose.{choose}
use Rattle.rules.specs.declared.Piece.{Piece}
use Rattle.rules.specs.State.{no_piece}
use Rattle.rules.specs.Steps.{in_register, drop_ended}
use Rattle.store.specs.declared.Counts.{Counts}
use Rattle.store.specs.Cells.{cells, with_active}
use Rattle.store.specs.StateOf.{state_of, After}

-- a piece that is neither ended at S nor spilled
abbrev pub stays_at : ℕ → Piece → Bool
stays_at S q = in_register q.place && leb S q.end

abbrev pub stay_in : List Piece → ℕ → ℕ → Bool
stay_in ps S j = stays_at S (get_or ps j no_piece)

-- entry i of a list moves up to place `kept` if it passes the test
unfoldable pub sifted : (ℕ → Bool) → List ℕ → ℕ → ℕ → List ℕ
sifted f js i kept = choose (f (get_or js i 0)) (set js kept (get_or js i 0)) js

unfoldable pub sifted_count : (ℕ → Bool) → List ℕ → ℕ → ℕ → ℕ
sifted_count f js i kept = choose (f (get_or js i 0)) (kept + 1) kept

-- entry i of the active records can be read, and moved up
pub record Movable (cap : ℕ) (ws : List ℕ) (i kept : ℕ) : Type 0 where
  pub most : cap ≤ 16384
  pub long : cap * 8 + 256 ≤ length ws
  pub inside : i < cap
  pub low : kept ≤ i
  pub named : get_or (cells cap ws).active i 0 < cap

-- active record i moved up if it stays at S; nothing else changed
pub record MovedUp (cap : ℕ) (ws ws' : List ℕ) (i kept S r : ℕ) : Type 0 where
  pub is : cells cap ws' ≡ with_active (sifted (stay_in (cells cap ws).pieces S) (cells cap ws).active i kept) (cells cap ws)
  pub count : r ≡ sifted_count (stay_in (cells cap ws).pieces S) (cells cap ws).active i kept
  pub room : length ws' ≡ length ws

-- the ended and spilled pieces are dropped, and nothing else is changed
pub record Dropped (cap : ℕ) (ws ws' : List ℕ) (c : Counts) (S : ℕ) (r : Counts) : Type 0 where
  pub after : After cap ws ws' c r (drop_ended (state_of cap ws c) S) c.records c.queued r.active
  pub fewer : r.active ≤ c.active
