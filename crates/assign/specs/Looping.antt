-- Facts for contracts: the head of the main loop, and the record that a turn of it pops, with step 1 of document 01 done.
use Rattle.std.specs.Prelude.{ℕ, ◌+◌, ◌≤◌, ◌<◌, ◌≡◌, Bool, true, false, List, ◌∷◌, length, Ok, Err, None, Some}
use Rattle.words.specs.Packed.{class_at, interval_at, interval_count}
use Rattle.rules.specs.declared.Refusal.{Refusal}
use Rattle.rules.specs.declared.Mode.{Mode}
use Rattle.rules.specs.declared.Pos.{Pos}
use Rattle.rules.specs.declared.Strategy.{Strategy}
use Rattle.rules.specs.State.{Given, State, Outcome, go_on, piece, with_queue, record_of_key}
use Rattle.rules.specs.Steps.{drop_ended, allocate_blocked, allocate, handle_safepoints}
use Rattle.store.specs.declared.Counts.{Counts}
use Rattle.store.specs.StateOf.{state_of, Ready}
use Rattle.activity.specs.declared.Tracker.{Tracker}
use Rattle.activity.specs.Cursors.{Facing, advanced}
use Rattle.activity.specs.Cursors as cursors
use Rattle.choice.specs.Holding.{FreeRow}
use Rattle.split.specs.Turns.{Turn}
use Rattle.split.specs.Turns.{cutting, HeldOf, Does}
use Rattle.safepoints.specs.Safepoint.{looking}
use Rattle.steps.specs.Stepping.{Tried}
use Rattle.steps.specs.Stepping.{class_for, stepping, Popping, Did}
use Rattle.assign.specs.declared.Start.{Start}
use Rattle.assign.specs.declared.Front.{Front}

-- record r .record was popped and step 1 done at its start: the state is the rules', and the record is neither queued nor active
pub record Started (cap : ℕ) (ws ws' : List ℕ) (c : Counts) (r : Start) : Type 0 where
  pub x : ℕ
  pub xs : List ℕ
  pub first : (state_of cap ws c).queue ≡ x ∷ xs
  pub names : r.record ≡ record_of_key x
  pub is : state_of cap ws' r.counts ≡ drop_ended (with_queue xs (state_of cap ws c)) (piece (state_of cap ws c) r.record).start
  pub start : r.start ≡ (piece (state_of cap ws' r.counts) r.record).start
  pub interval : r.interval ≡ (piece (state_of cap ws' r.counts) r.record).interval
  pub owner : r.interval < c.intervals
  pub ready : Ready cap ws' r.counts
  pub inside : r.record < r.counts.records
  pub intervals : r.counts.intervals ≡ c.intervals
  pub room : r.counts.queued + r.counts.active < r.counts.records
  pub long : length ws' ≡ length ws

-- the head of the loop: what a pop reads
pub record Turning (cap : ℕ) (cs is ws : List ℕ) (c : Counts) : Type 0 where
  pub ready : Ready cap ws c
  pub rows : c.intervals ≡ interval_count is
  pub few : length cs ≤ 8
  pub class : (v : ℕ) → v < interval_count is → (interval_at is v).class < length cs

-- the popped record's class is read
pub record Fronted (cap : ℕ) (cs is ws ws' : List ℕ) (c : Counts) (f : Front) : Type 0 where
  pub x : ℕ
  pub xs : List ℕ
  pub first : (state_of cap ws c).queue ≡ x ∷ xs
  pub names : f.record ≡ record_of_key x
  pub becomes : state_of cap ws' f.counts ≡ drop_ended (with_queue xs (state_of cap ws c)) (piece (state_of cap ws c) f.record).start
  pub ready : Ready cap ws' f.counts
  pub inside : f.record < f.counts.records
  pub rows : f.counts.intervals ≡ interval_count is
  pub room : f.counts.queued + f.counts.active < f.counts.records
  pub start : f.start ≡ (piece (state_of cap ws' f.counts) f.record).start
  pub class : f.class ≡ class_for cs is (state_of cap ws' f.counts) f.record
  pub listed : f.index < length cs
  pub kind : f.class ≡ class_at cs f.index
  pub index : f.index < 8
  pub long : length ws' ≡ length ws

-- the cursors of a front's class can be moved to its start
pub record Trackable (rs fs : List ℕ) (t : Tracker) (f : Front) : Type 0 where
  pub ready : cursors.Ready rs fs t f.class.first f.class.count
  pub few : f.counts.active < 65536

-- .. and are
abbrev pub tracked_to : List ℕ → List ℕ → Tracker → Front → Tracker
tracked_to rs fs t f = advanced rs fs t f.class.first f.class.count f.start f.counts.active

-- the cursors of a front's class face its record's start
pub record Faces (cap : ℕ) (rs fs ws : List ℕ) (f : Front) (t : Tracker) : Type 0 where
  pub ready : Ready cap ws f.counts
  pub inside : f.record < f.counts.records
  pub facing : Facing rs fs (piece (state_of cap ws f.counts) f.record).start f.class.first f.class.count t

-- a front's record can take a register of its class
pub record Takes (cap : ℕ) (is ms ss ws : List ℕ) (f : Front) : Type 0 where
  pub popping : Popping cap is ms ss ws f.counts f.record
  pub registers : f.class.first + f.class.count ≤ 64

-- record k lies in the area, where steps 2 to 4 went on
pub record Looking (cap : ℕ) (is ws : List ℕ) (k : ℕ) (x : Turn) : Type 0 where
  pub ready : (c : Counts) → x ≡ Ok c → Ready cap ws c
  pub inside : (c : Counts) → x ≡ Ok c → k < c.records
  pub rows : (c : Counts) → x ≡ Ok c → c.intervals ≡ interval_count is

-- it does not look at safepoints, if the answer is yes
pub record Past (cap : ℕ) (is ws : List ℕ) (k : ℕ) (x : Turn) (b : Bool) : Type 0 where
  pub past : b ≡ true → (c : Counts) → x ≡ Ok c → looking is (piece (state_of cap ws c) k) ≡ false

-- record k can be looked at for its safepoints, where steps 2 to 4 went on
pub record Finishing (cap : ℕ) (is ms ss ws : List ℕ) (k : ℕ) (x : Turn) : Type 0 where
  pub held : (c : Counts) → x ≡ Ok c → HeldOf cap is ms ss ws c k

-- .. and was
pub record Finished (cap : ℕ) (z : Strategy) (is ms ss ws ws' : List ℕ) (k : ℕ) (x r : Turn) : Type 0 where
  pub on : (c : Counts) → x ≡ Ok c → Does cap ms ss ws ws' c r (handle_safepoints (cutting z is ms ss cap) (state_of cap ws c) k)
  pub off : (a : Refusal) → x ≡ Err a → r ≡ Err a
  pub kept : (a : Refusal) → x ≡ Err a → ws' ≡ ws

-- steps 2 to 5, once what ended is dropped
abbrev pub settled : Given → State → ℕ → Outcome
settled g s k = go_on (allocate g s k) (λ t. handle_safepoints g t k)

-- steps 4 and 5
abbrev pub contended : Given → State → ℕ → Outcome
contended g s k = go_on (allocate_blocked g s k) (λ t. handle_safepoints g t k)

-- a front's class, and its row of free-until positions, are those of the tables
pub record Read (cap : ℕ) (cs rs fs is ws : List ℕ) (f : Front) (row : List Pos) : Type 0 where
  pub class : f.class ≡ class_for cs is (state_of cap ws f.counts) f.record
  pub free : FreeRow rs fs (state_of cap ws f.counts) (piece (state_of cap ws f.counts) f.record) f.class.first f.class.count row

-- the front's record was settled as the rules say, whatever tables its class and row are of; or steps 4 and 5 are due
pub record Settling (cap : ℕ) (m : Mode) (is ms ss ws ws' : List ℕ) (f : Front) (row : List Pos) (t : Tried) : Type 0 where
  pub taken : (n : ℕ) (cs rs fs : List ℕ) → Read cap cs rs fs is ws f row → (z : Turn) → t ≡ Some z
      → Did cap ms ss ws ws' f.counts z (settled (stepping n m cs rs fs is ms ss cap) (state_of cap ws f.counts) f.record)
  pub blocked : (n : ℕ) (cs rs fs : List ℕ) → Read cap cs rs fs is ws f row → t ≡ None
      → settled (stepping n m cs rs fs is ms ss cap) (state_of cap ws f.counts) f.record ≡ contended (stepping n m cs rs fs is ms ss cap) (state_of cap ws f.counts) f.record
  pub kept : t ≡ None → ws' ≡ ws
