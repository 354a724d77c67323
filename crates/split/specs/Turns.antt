-- Facts for contracts: how a split or a spill in the work area ends, and what it leaves.
use Rattle.std.specs.Prelude.{ℕ, ◌+◌, ◌≤◌, ◌<◌, ◌≡◌, false, List, [], ◌∷◌, ◌++◌, length, set, Ok, Err, Result}
use Rattle.words.specs.Packed.{interval_count}
use Rattle.rules.specs.declared.Refusal.{Refusal}
use Rattle.rules.specs.declared.Strategy.{Strategy}
use Rattle.rules.specs.declared.Strategy.TheVariants.{From}
use Rattle.rules.specs.declared.Tables as lent
use Rattle.rules.specs.State.{Given, State, Outcome, goes, stops, go_on, with_pieces}
use Rattle.rules.specs.Split.{split_pieces, split_and_queue}
use Rattle.rules.specs.Slots.{spill}
use Rattle.uses.specs.declared.Halves.{Halves}
use Rattle.store.specs.declared.Counts.{Counts}
use Rattle.store.specs.StateOf.{state_of, Ready, After}
use Rattle.split.specs.Fit.{Fit}

-- what splits and spills read of all that a run is given
abbrev pub cutting : Strategy → List ℕ → List ℕ → List ℕ → ℕ → Given
cutting y is ms ss cap =
    record {
      mode = record { strategy = y; partial_split = false; partial_split_near_end = false };
      tables = record { instructions = 0; classes = []; registers = []; fragments = []; intervals = is; mentions = ms; safepoints = ss };
      capacity = cap;
    }

-- .. of the tables of a call, as these are lent
abbrev pub cutting_of : Strategy → lent.Tables → ℕ → Given
cutting_of y t cap = cutting y t.intervals.now t.mentions.now t.safepoints.now cap

-- how a change of the work area ends: the run goes on with these counts, or is refused
abbrev pub Turn : Type 0
Turn = Result Counts Refusal

-- the outcome of `rules` that a turn is
unfoldable pub outcome_of : ℕ → List ℕ → Turn → Outcome
outcome_of cap ws (Ok c) = goes (state_of cap ws c)
outcome_of cap ws (Err a) = stops a

-- the area is ready for a split or a spill of record k
pub record Held (cap : ℕ) (ms ss ws : List ℕ) (c : Counts) (k : ℕ) : Type 0 where
  pub ready : Ready cap ws c
  pub fit : Fit ms ss (state_of cap ws c).pieces
  pub inside : k < c.records

-- .. and there is a row of the interval table for each interval
pub record HeldOf (cap : ℕ) (is ms ss ws : List ℕ) (c : Counts) (k : ℕ) : Type 0 where
  pub ready : Ready cap ws c
  pub fit : Fit ms ss (state_of cap ws c).pieces
  pub inside : k < c.records
  pub rows : c.intervals ≡ interval_count is

-- .. of the tables of a call
abbrev pub HeldIn : ℕ → lent.Tables → List ℕ → Counts → ℕ → Type 0
HeldIn cap t ws c k = HeldOf cap t.intervals.now t.mentions.now t.safepoints.now ws c k

-- the counts d after c: as many intervals, no record less, and no more that are queued or active than there are new records for
pub record Went (cap : ℕ) (ms ss ws : List ℕ) (c d : Counts) : Type 0 where
  pub ready : Ready cap ws d
  pub fit : Fit ms ss (state_of cap ws d).pieces
  pub records : c.records ≤ d.records
  pub intervals : d.intervals ≡ c.intervals
  pub slack : d.queued + d.active + c.records ≤ c.queued + c.active + d.records

pub data Turned (cap : ℕ) (ms ss ws : List ℕ) (c : Counts) : Turn → Type 0 where
  on : (d : Counts) → Went cap ms ss ws c d → Turned cap ms ss ws c (Ok d)
  off : (a : Refusal) → Turned cap ms ss ws c (Err a)

-- the turn r is the outcome o, and leaves the area ready
pub record Does (cap : ℕ) (ms ss ws ws' : List ℕ) (c : Counts) (r : Turn) (o : Outcome) : Type 0 where
  pub meets : outcome_of cap ws' r ≡ o
  pub turned : Turned cap ms ss ws' c r
  pub long : length ws' ≡ length ws

abbrev pub DoesIn : ℕ → lent.Tables → List ℕ → List ℕ → Counts → Turn → Outcome → Type 0
DoesIn cap t ws ws' c r o = Does cap t.mentions.now t.safepoints.now ws ws' c r o

-- there is room for the child of record k, and both halves are of intervals that there are
pub record Halved (cap : ℕ) (ws : List ℕ) (c : Counts) (k : ℕ) (h : Halves) : Type 0 where
  pub ready : Ready cap ws c
  pub inside : k < c.records
  pub room : c.records < cap
  pub parent : h.parent.interval < c.intervals
  pub child : h.child.interval < c.intervals

-- the halves were put, and d are the counts
pub record HalvesPut (cap : ℕ) (ws ws' : List ℕ) (c d : Counts) (k : ℕ) (h : Halves) : Type 0 where
  pub after : After cap ws ws' c d (with_pieces (set (state_of cap ws c).pieces k h.parent ++ (h.child ∷ [])) (state_of cap ws c)) (c.records + 1) c.queued c.active

-- record k was split at p, and d are the counts
pub record Parted (cap : ℕ) (ms ss ws ws' : List ℕ) (c d : Counts) (k p : ℕ) : Type 0 where
  pub after : After cap ws ws' c d (with_pieces (split_pieces ms ss (state_of cap ws c).pieces k p) (state_of cap ws c)) (c.records + 1) c.queued c.active
  pub fit : Fit ms ss (state_of cap ws' d).pieces

-- the area is ready for a spill of record k
pub record Spilling (cap : ℕ) (is ws : List ℕ) (c : Counts) (k : ℕ) : Type 0 where
  pub ready : Ready cap ws c
  pub inside : k < c.records
  pub rows : c.intervals ≡ interval_count is

-- record k was spilled, and d are the counts
pub record Spilt (cap : ℕ) (is ws ws' : List ℕ) (c d : Counts) (k : ℕ) : Type 0 where
  pub after : After cap ws ws' c d (spill (cutting From is [] [] cap) (state_of cap ws c) k) c.records c.queued c.active

-- "split at .., queue the child, spill the piece"
abbrev pub split_then_spill : Given → State → ℕ → ℕ → Outcome
split_then_spill g s k p = go_on (split_and_queue g s k p) (λ t. goes (spill g t k))
