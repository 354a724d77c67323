-- Facts for contracts: what the checks at entry give the run, how a run ends, and what the call makes of its end.
use Rattle.rules.specs.Answers.{Answer}
use Rattle.std.specs.Prelude.{ℕ, ◌+◌, ◌*◌, ◌≤◌, ◌≡◌, Bool, List, length, Ok, Err}
use Rattle.words.specs.Packed.{interval_count}
use Rattle.rules.specs.declared.Refusal.{Refusal}
use Rattle.rules.specs.declared.Mode.{Mode}
use Rattle.rules.specs.declared.Options.{Options}
use Rattle.rules.specs.Tables.{Tables}
use Rattle.rules.specs.Room.{capacity}
use Rattle.rules.specs.Accepted.{Accepted}
use Rattle.rules.specs.State.{Outcome}
use Rattle.rules.specs.Run.{begin}
use Rattle.rules.specs.Call.{finish, run_for}
use Rattle.store.specs.declared.Counts.{Counts}
use Rattle.store.specs.StateOf.{state_of, Ready}
use Rattle.split.specs.Turns.{Turn}
use Rattle.split.specs.Turns.{outcome_of}

-- the options of a call
abbrev pub options : ℕ → Bool → Bool → Options
options n p e = record { strategy = n; partial_split = p; partial_split_near_end = e }

-- the checks 3 to 9 passed: the tables are sound, and there is room
pub record Checked (T : Tables) (cap : ℕ) (ws : List ℕ) : Type 0 where
  pub sound : Accepted T
  pub most : cap ≤ 16384
  pub long : cap * 8 + 256 ≤ length ws
  pub inside : interval_count T.intervals ≤ cap

-- .. and the capacity is the result area's
pub record Allowed (T : Tables) (cap : ℕ) (ws out : List ℕ) : Type 0 where
  pub checked : Checked T cap ws
  pub is : cap ≡ capacity out

-- the work area is loaded
pub record Begun (T : Tables) (cap : ℕ) (ws : List ℕ) (c : Counts) : Type 0 where
  pub checked : Checked T cap ws
  pub begins : state_of cap ws c ≡ begin T.intervals
  pub ready : Ready cap ws c
  pub rows : c.intervals ≡ interval_count T.intervals

-- the area at the end of a run: where it is done, the records can be read
pub data Ends (cap : ℕ) (ws : List ℕ) : Turn → Type 0 where
  done : (c : Counts) → Ready cap ws c → Ends cap ws (Ok c)
  refused : (a : Refusal) → Ends cap ws (Err a)

-- the run ended as the rules say
pub record Ran (m : Mode) (T : Tables) (cap : ℕ) (ws ws' : List ℕ) (r : Turn) : Type 0 where
  pub meets : outcome_of cap ws' r ≡ run_for m T cap
  pub ends : Ends cap ws' r
  pub long : length ws' ≡ length ws

-- the end of a run can be written out
pub record Closing (cap : ℕ) (ws out : List ℕ) (r : Turn) : Type 0 where
  pub ends : Ends cap ws r
  pub is : cap ≡ capacity out

-- the answer to outcome o, and what the result area holds afterwards
pub record Concluded (o : Outcome) (out out' : List ℕ) (a : Answer) : Type 0 where
  pub answers : a ≡ (finish o out).answer
  pub leaves : out' ≡ (finish o out).leaves
