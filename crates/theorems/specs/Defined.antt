-- That nothing is ill-defined, as one record of facts that holds of every state at the head of the loop: for the contracts of code.
use Rattle.std.specs.Prelude.{ℕ, ◌+◌, ◌*◌, ◌/◌, ◌≤◌, ◌<◌, ◌≡◌, length, get_or, None, Some}
use mathlib.Core.List.{Memᴰ}
use Rattle.words.specs.Packed.{size_of, interval_count}
use Rattle.rules.specs.declared.Piece.{Piece}
use Rattle.rules.specs.declared.Place.TheVariants.{Register, Slot}
use Rattle.rules.specs.Accepted.{interval}
use Rattle.rules.specs.State.{Given, State}
use Rattle.theorems.specs.Invariant.{Asc, at, Queued}

-- the numbers of a piece are within bounds, and its ranges inside their tables
pub record InBounds (g : Given) (q : Piece) : Type 0 where
  pub interval : q.interval < interval_count g.tables.intervals
  pub ordered : q.start ≤ q.end
  pub point : q.end < 2 * g.tables.instructions
  pub width : q.end < 65536
  pub mentions : q.mentions.index + q.mentions.count ≤ length g.tables.mentions
  pub safepoints : q.safepoints.index + q.safepoints.count ≤ length g.tables.safepoints
  pub register : (r : ℕ) → q.place ≡ Register r → r < length g.tables.registers
  pub slot : (t : ℕ) → q.place ≡ Slot t → t < 32768

-- l is the last start popped
pub record Defined (g : Given) (l : ℕ) (s : State) : Type 0 where
  pub least : interval_count g.tables.intervals ≤ length s.pieces
  pub most : length s.pieces ≤ g.capacity
  pub bounds : (k : ℕ) → k < length s.pieces → InBounds g (at s.pieces k)
  pub once : Asc 0 s.queue  -- no record is queued twice
  pub queued : (x : ℕ) → Memᴰ x s.queue → Queued s.pieces x  -- what is popped is a record without a place, and its key has its start
  pub ahead : (x : ℕ) → Memᴰ x s.queue → l ≤ x / 16384  -- and starts at or after the last start popped
  pub homes : length s.homes ≡ interval_count g.tables.intervals
  pub home : (v t : ℕ) → get_or s.homes v None ≡ Some t → t + size_of (interval g.tables v) ≤ s.total
  pub total : s.total ≤ 32768
