-- The state of `rules` that a work area holds, and when it is fit for the next step (facts for contracts).
use Rattle.std.specs.Prelude.{ℕ, suc, ◌+◌, ◌*◌, ◌^◌, ◌≤◌, ◌<◌, ◌≡◌, List, [], ◌∷◌, length, get_or, take, replicate, Option, None, Some}
use Rattle.words.specs.Rows.{tab}
use Rattle.words.specs.Packed.{interval_count}
use Rattle.rules.specs.declared.Piece.{Piece}
use Rattle.rules.specs.declared.Place.{Place}
use Rattle.rules.specs.State.{State, with_queue, with_place, piece, record_of_key}
use Rattle.rules.specs.Slots.{round_up}
use Rattle.rules.specs.Run.{whole_interval, begin}
use Rattle.queue.specs.Heap.{Ord, sort}
use Rattle.store.specs.Cells.{Cells, cells}
use Rattle.store.specs.declared.Counts.{Counts}
use Rattle.store.specs.declared.Popped.{Popped}

-- the records in use, the queue that the heap holds, the active records, a home for each interval, the slot total
abbrev pub state_in : Cells → Counts → State
state_in x c =
    record {
      pieces = take c.records x.pieces;
      queue = sort (take c.queued x.heap);
      active = take c.active x.active;
      homes = take c.intervals x.homes;
      total = c.total;
    }

-- counts with one number changed
abbrev pub with_records : ℕ → Counts → Counts
with_records n c = record { intervals = c.intervals; records = n; queued = c.queued; active = c.active; total = c.total }

abbrev pub with_queued : ℕ → Counts → Counts
with_queued n c = record { intervals = c.intervals; records = c.records; queued = n; active = c.active; total = c.total }

abbrev pub with_actives : ℕ → Counts → Counts
with_actives n c = record { intervals = c.intervals; records = c.records; queued = c.queued; active = n; total = c.total }

abbrev pub with_total : ℕ → Counts → Counts
with_total n c = record { intervals = c.intervals; records = c.records; queued = c.queued; active = c.active; total = n }

-- the state of rules that the area holds
unfoldable pub state_of : ℕ → List ℕ → Counts → State
state_of cap ws c = state_in (cells cap ws) c

-- every entry of a list has P
pub data Each {A : Type 0} (P : A → Type 0) : List A → Type 0 where
  none : Each P []
  more : {x : A} {xs : List A} → P x → Each P xs → Each P (x ∷ xs)

-- how many virtual registers have a slot
unfoldable pub spilled_in : List (Option ℕ) → ℕ
spilled_in [] = 0
spilled_in (None ∷ hs) = spilled_in hs
spilled_in (Some t ∷ hs) = suc (spilled_in hs)

-- what is in a state names what is there: pieces name one of the n intervals, the queue and the active records name records;
-- a slot takes at most 8 of the total
pub record Sane (n : ℕ) (s : State) : Type 0 where
  pub owners : Each (λ (q : Piece). q.interval < n) s.pieces
  pub named : Each (λ (x : ℕ). record_of_key x < length s.pieces) s.queue
  pub actives : Each (λ (j : ℕ). j < length s.pieces) s.active
  pub homes : length s.homes ≡ n
  pub slots : s.total ≤ 8 * spilled_in s.homes

-- the area is fit for the next step: room, counts in bounds, the heap in order, the state sane. No record is both queued and active
pub record Ready (cap : ℕ) (ws : List ℕ) (c : Counts) : Type 0 where
  pub most : cap ≤ 16384
  pub long : cap * 8 + 256 ≤ length ws
  pub records : c.records ≤ cap
  pub held : c.queued + c.active ≤ c.records
  pub intervals : c.intervals ≤ c.records
  pub few : c.intervals ≤ 4096
  pub ordered : Ord (cells cap ws).heap c.queued
  pub sane : Sane c.intervals (state_of cap ws c)

-- what a state function leaves: the state is s, fit for the next step, with m records, q queued and a active, and the length is kept
pub record After (cap : ℕ) (ws ws' : List ℕ) (c r : Counts) (s : State) (m q a : ℕ) : Type 0 where
  pub is : state_of cap ws' r ≡ s
  pub ready : Ready cap ws' r
  pub records : r.records ≡ m
  pub queued : r.queued ≡ q
  pub active : r.active ≡ a
  pub intervals : r.intervals ≡ c.intervals
  pub long : length ws' ≡ length ws

-- record k was read
pub record Got (cap : ℕ) (ws : List ℕ) (c : Counts) (k : ℕ) (r : Piece) : Type 0 where
  pub is : r ≡ piece (state_of cap ws c) k
  pub owner : r.interval < c.intervals

-- a piece in another place
pub record PutInto (w : Place) (q r : Piece) : Type 0 where
  pub is : r ≡ with_place w q
  pub same : r.interval ≡ q.interval

-- active record i was read
pub record GotActive (cap : ℕ) (ws : List ℕ) (c : Counts) (i r : ℕ) : Type 0 where
  pub is : r ≡ get_or (state_of cap ws c).active i 0
  pub inside : r < c.records

-- the first of the queue was popped: its key x named the record, and the rest is queued
pub record PoppedAs (cap : ℕ) (ws ws' : List ℕ) (c : Counts) (r : Popped) : Type 0 where
  pub x : ℕ
  pub xs : List ℕ
  pub first : (state_of cap ws c).queue ≡ x ∷ xs
  pub names : r.record ≡ record_of_key x
  pub inside : r.record < r.counts.records
  pub is : state_of cap ws' r.counts ≡ with_queue xs (state_of cap ws c)
  pub ready : Ready cap ws' r.counts
  pub records : r.counts.records ≡ c.records
  pub queued : r.counts.queued + 1 ≡ c.queued
  pub active : r.counts.active ≡ c.active
  pub intervals : r.counts.intervals ≡ c.intervals
  pub long : length ws' ≡ length ws

-- virtual register v, of record k, has this home
pub record HomeOf (cap : ℕ) (ws : List ℕ) (c : Counts) (k v : ℕ) (h : Option ℕ) : Type 0 where
  pub owner : v ≡ (piece (state_of cap ws c) k).interval
  pub within : v < c.intervals
  pub is : h ≡ get_or (state_of cap ws c).homes v None

-- virtual register v, of record k, has no slot yet
pub record Homeless (cap : ℕ) (ws : List ℕ) (c : Counts) (k v : ℕ) : Type 0 where
  pub owner : v ≡ (piece (state_of cap ws c) k).interval
  pub within : v < c.intervals
  pub unspilled : get_or (state_of cap ws c).homes v None ≡ None

-- a slot size by its log2
pub record Size (l r : ℕ) : Type 0 where
  pub is : r ≡ 2 ^ l
  pub most : r ≤ 8

-- a total rounded up to a multiple of 2 ^ l
pub record Rounded (total l r : ℕ) : Type 0 where
  pub is : r ≡ round_up total (2 ^ l)
  pub most : r ≤ 32760

-- what `load` asks: room, and intervals within it
pub record Loads (cap : ℕ) (t ws : List ℕ) : Type 0 where
  pub most : cap ≤ 16384
  pub long : cap * 8 + 256 ≤ length ws
  pub inside : interval_count t ≤ cap
  pub few : interval_count t ≤ 4096

-- the piece of the whole interval v
pub record Whole (t : List ℕ) (v : ℕ) (r : Piece) : Type 0 where
  pub is : r ≡ whole_interval t v
  pub small : r.interval < 4096

-- the first n pieces are the whole intervals, and no virtual register of the first n has a slot
pub record Filled (cap : ℕ) (t ws ws' : List ℕ) (n : ℕ) : Type 0 where
  pub pieces : take n (cells cap ws').pieces ≡ tab n (whole_interval t)
  pub homes : take n (cells cap ws').homes ≡ replicate n None
  pub long : length ws' ≡ length ws

-- what `load` leaves: the state that a run begins with
pub record Loaded (cap : ℕ) (t ws ws' : List ℕ) (r : Counts) (n : ℕ) : Type 0 where
  pub is : state_of cap ws' r ≡ begin t
  pub ready : Ready cap ws' r
  pub records : r.records ≡ n
  pub queued : r.queued ≡ n
  pub active : r.active ≡ 0
  pub intervals : r.intervals ≡ n
  pub long : length ws' ≡ length ws
