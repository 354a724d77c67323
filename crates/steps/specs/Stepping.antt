-- Facts for contracts: what a step is given, and what the code leans on at the popped record.
use Rattle.rules.specs.declared.RegPos.{RegPos}
use Rattle.std.specs.Prelude.{ℕ, ◌+◌, ◌≤◌, ◌<◌, ◌≡◌, List, [], ltb, length, Option, None, Some, Ok, Err}
use Rattle.words.specs.Choose.{choose}
use Rattle.words.specs.declared.Class.{Class}
use Rattle.rules.specs.declared.Piece.{Piece}
use Rattle.rules.specs.Uses.{mention_points, next_use}
use Rattle.words.specs.Packed.{part, class_at, interval_at, interval_count}
use Rattle.rules.specs.declared.Refusal.{Refusal}
use Rattle.rules.specs.Steps.{Choice}
use Rattle.rules.specs.declared.Mode.{Mode}
use Rattle.rules.specs.declared.Pos.{Pos}
use Rattle.rules.specs.declared.Pos.TheVariants.{Blocked, At, Never}
use Rattle.rules.specs.Positions.{below}
use Rattle.rules.specs.declared.Tables as lent
use Rattle.rules.specs.State.{Given, State, Outcome, goes, go_on, piece}
use Rattle.rules.specs.declared.Strategy.TheVariants.{From}
use Rattle.rules.specs.Split.{split_and_queue, partial_place}
use Rattle.rules.specs.Steps.{try_take, allocate_blocked, take_register, cut_before, spill_holder, holder, furthest, spill_until}
use Rattle.store.specs.declared.Counts.{Counts}
use Rattle.store.specs.StateOf.{state_of, Ready, After}
use Rattle.activity.specs.declared.Tracker.{Tracker}
use Rattle.activity.specs.Fixed.{Fixed}
use Rattle.activity.specs.Cursors.{Facing}
use Rattle.steps.specs.declared.Grant.{Grant}
use Rattle.steps.specs.declared.Grant.TheVariants.{Whole, Part}
use Rattle.steps.specs.declared.blocked.NumberedClass.{NumberedClass}
use Rattle.split.specs.Turns.{Turn}
use Rattle.choice.specs.Row.{pos_in}
use Rattle.choice.specs.Holding.{HolderRow, next_pos}
use Rattle.split.specs.Fit.{Fit}
use Rattle.split.specs.Turns.{cutting, outcome_of}

-- what a run is given: the mode, the tables and the capacity. (No step reads the instruction count.)
abbrev pub stepping : ℕ → Mode → List ℕ → List ℕ → List ℕ → List ℕ → List ℕ → List ℕ → ℕ → Given
stepping n m cs rs fs is ms ss cap =
    record { mode = m; tables = record { instructions = n; classes = cs; registers = rs; fragments = fs; intervals = is; mentions = ms; safepoints = ss }; capacity = cap }

-- .. and what is read of it once the register is known
abbrev pub placing : Mode → List ℕ → List ℕ → List ℕ → ℕ → Given
placing m is ms ss cap = stepping 0 m [] [] [] is ms ss cap

-- .. of the tables of a call, as these are lent
abbrev pub stepping_of : Mode → lent.Tables → ℕ → Given
stepping_of m t cap = stepping t.instructions m t.classes.now t.registers.now t.fragments.now t.intervals.now t.mentions.now t.safepoints.now cap

abbrev pub placing_of : Mode → lent.Tables → ℕ → Given
placing_of m t cap = placing m t.intervals.now t.mentions.now t.safepoints.now cap

-- the first use of a piece
abbrev pub first_use : List ℕ → Piece → Option ℕ
first_use ms q = next_use q.start (mention_points (part q.mentions ms))

-- of sound tables: every interval has a class, and every class its registers, with their fragments
pub record Tabled (cs rs fs is : List ℕ) : Type 0 where
  pub few : length cs ≤ 8
  pub class : (v : ℕ) → v < interval_count is → (interval_at is v).class < length cs
  pub inside : (c : ℕ) → c < length cs → (class_at cs c).first + (class_at cs c).count ≤ length rs
  pub fixed : Fixed rs fs

-- the class of record k
abbrev pub class_for : List ℕ → List ℕ → State → ℕ → Class
class_for cs is s k = class_at cs (interval_at is (piece s k).interval).class

-- interval v has a class
pub record HasClass (cs is : List ℕ) (v : ℕ) : Type 0 where
  pub row : v < interval_count is
  pub inside : (interval_at is v).class < length cs

-- .. which was read
pub record NumberedOf (cs is : List ℕ) (v : ℕ) (r : NumberedClass) : Type 0 where
  pub number : r.number ≡ (interval_at is v).class
  pub few : r.number < 8
  pub is_class : r.class ≡ class_at cs r.number

-- the area is ready, and record k, which is popped, is neither queued nor active
pub record Popping (cap : ℕ) (is ms ss ws : List ℕ) (c : Counts) (k : ℕ) : Type 0 where
  pub ready : Ready cap ws c
  pub fit : Fit ms ss (state_of cap ws c).pieces
  pub inside : k < c.records
  pub rows : c.intervals ≡ interval_count is
  pub room : c.queued + c.active < c.records

abbrev pub PoppingIn : ℕ → lent.Tables → List ℕ → Counts → ℕ → Type 0
PoppingIn cap t ws c k = Popping cap t.intervals.now t.mentions.now t.safepoints.now ws c k

-- .. and the cursors of its class face its start
pub record Stepping (cap : ℕ) (cs rs fs is ms ss ws : List ℕ) (c : Counts) (t : Tracker) (k : ℕ) : Type 0 where
  pub ready : Ready cap ws c
  pub fit : Fit ms ss (state_of cap ws c).pieces
  pub inside : k < c.records
  pub rows : c.intervals ≡ interval_count is
  pub room : c.queued + c.active < c.records
  pub tables : Tabled cs rs fs is
  pub facing : Facing rs fs (piece (state_of cap ws c) k).start (class_for cs is (state_of cap ws c) k).first (class_for cs is (state_of cap ws c) k).count t

abbrev pub SteppingIn : ℕ → lent.Tables → List ℕ → Counts → Tracker → ℕ → Type 0
SteppingIn cap t ws c u k = Stepping cap t.classes.now t.registers.now t.fragments.now t.intervals.now t.mentions.now t.safepoints.now ws c u k

-- record k can take a register
pub record Taking (cap : ℕ) (ws : List ℕ) (c : Counts) (k : ℕ) : Type 0 where
  pub ready : Ready cap ws c
  pub inside : k < c.records
  pub room : c.queued + c.active < c.records

-- record k took register r, and d are the counts
pub record Took (cap : ℕ) (ws ws' : List ℕ) (c d : Counts) (k r : ℕ) : Type 0 where
  pub after : After cap ws ws' c d (take_register (state_of cap ws c) k r) c.records c.queued (c.active + 1)

-- the active piece of register r was found
pub record HolderOf (cap : ℕ) (ws : List ℕ) (c : Counts) (r : ℕ) (h : Option ℕ) : Type 0 where
  pub is : h ≡ holder (state_of cap ws c) r
  pub inside : (j : ℕ) → h ≡ Some j → j < c.records

-- the area is ready for what is done to a holder
pub record Holding (cap : ℕ) (is ms ss ws : List ℕ) (c : Counts) (h : Option ℕ) : Type 0 where
  pub ready : Ready cap ws c
  pub fit : Fit ms ss (state_of cap ws c).pieces
  pub rows : c.intervals ≡ interval_count is
  pub inside : (j : ℕ) → h ≡ Some j → j < c.records

-- record k, which starts at S, can take a register from holder h
pub record TakesOver (cap : ℕ) (is ms ss ws : List ℕ) (c : Counts) (k S : ℕ) (h : Option ℕ) : Type 0 where
  pub ready : Ready cap ws c
  pub fit : Fit ms ss (state_of cap ws c).pieces
  pub inside : k < c.records
  pub rows : c.intervals ≡ interval_count is
  pub room : c.queued + c.active < c.records
  pub starts : S ≡ (piece (state_of cap ws c) k).start
  pub held : (j : ℕ) → h ≡ Some j → j < c.records

-- step 4's "take the register", whose first fragment start is b and whose holder is h
abbrev pub take_over_at : Given → State → ℕ → ℕ → Pos → Option ℕ → Outcome
take_over_at g s k r b h = go_on (cut_before g (take_register s k r) k b) (λ t. spill_holder g t (piece s k).start h)

-- step 4's weighing, where B gives each register its first fragment start
unfoldable pub weigh_by : Given → State → ℕ → ℕ → (ℕ → Pos) → Choice → Outcome
weigh_by g s k f B None = spill_until g s k f
weigh_by g s k f B (Some e) = choose (below (At f) e.pos) (take_over_at g s k e.register (B e.register) (holder s e.register)) (spill_until g s k f)

-- a choice is of a register of 64
pub record Chosen (x : Choice) : Type 0 where
  pub below : (e : RegPos) → x ≡ Some e → e.register < 64

-- the counts d after a step from c: as many intervals, and no record less
pub record Stays (cap : ℕ) (ms ss ws : List ℕ) (c d : Counts) : Type 0 where
  pub ready : Ready cap ws d
  pub fit : Fit ms ss (state_of cap ws d).pieces
  pub records : c.records ≤ d.records
  pub intervals : d.intervals ≡ c.intervals

pub data Ended (cap : ℕ) (ms ss ws : List ℕ) (c : Counts) : Turn → Type 0 where
  ended : (d : Counts) → Stays cap ms ss ws c d → Ended cap ms ss ws c (Ok d)
  refused : (a : Refusal) → Ended cap ms ss ws c (Err a)

-- the turn r is the outcome o of a step, in which a register may have been taken, and leaves the area ready
pub record Did (cap : ℕ) (ms ss ws ws' : List ℕ) (c : Counts) (r : Turn) (o : Outcome) : Type 0 where
  pub meets : outcome_of cap ws' r ≡ o
  pub ends : Ended cap ms ss ws' c r
  pub long : length ws' ≡ length ws

abbrev pub DidIn : ℕ → lent.Tables → List ℕ → List ℕ → Counts → Turn → Outcome → Type 0
DidIn cap t ws ws' c r o = Did cap t.mentions.now t.safepoints.now ws ws' c r o

-- the popped record k, and its class x with its number i: its cursors face the record's start
pub record Contending (cap : ℕ) (cs rs fs is ms ss ws : List ℕ) (c : Counts) (t : Tracker) (k i : ℕ) (x : Class) : Type 0 where
  pub ready : Ready cap ws c
  pub fit : Fit ms ss (state_of cap ws c).pieces
  pub inside : k < c.records
  pub rows : c.intervals ≡ interval_count is
  pub room : c.queued + c.active < c.records
  pub few : i < 8
  pub registers : x.first + x.count ≤ 64
  pub facing : Facing rs fs (piece (state_of cap ws c) k).start x.first x.count t
  pub is_class : x ≡ class_for cs is (state_of cap ws c) k

-- .. of which the weighing reads less
pub record Weighing (cap : ℕ) (is ms ss ws : List ℕ) (c : Counts) (k i : ℕ) (x : Class) : Type 0 where
  pub ready : Ready cap ws c
  pub fit : Fit ms ss (state_of cap ws c).pieces
  pub inside : k < c.records
  pub rows : c.intervals ≡ interval_count is
  pub room : c.queued + c.active < c.records
  pub few : i < 8
  pub registers : x.first + x.count ≤ 64

-- the furthest of the next uses was weighed against f, where the block row is B
pub record Weighed (cap : ℕ) (m : Mode) (is ms ss ws ws' : List ℕ) (c : Counts) (k f S : ℕ) (x : Class) (B : List Pos) (z : Turn) : Type 0 where
  pub next : List Pos
  pub held : HolderRow (next_pos ms (state_of cap ws c) S B) (state_of cap ws c) x.first x.count next
  pub did : Did cap ms ss ws ws' c z (weigh_by (placing m is ms ss cap) (state_of cap ws c) k f (pos_in B) (furthest (pos_in next) x.scratch x.first x.count None))

-- record k can be split, and what is left of it take a register
pub record Parting (cap : ℕ) (ms ss ws : List ℕ) (c : Counts) (k : ℕ) : Type 0 where
  pub ready : Ready cap ws c
  pub fit : Fit ms ss (state_of cap ws c).pieces
  pub inside : k < c.records
  pub room : c.queued + c.active < c.records

abbrev pub PartingIn : ℕ → lent.Tables → List ℕ → Counts → ℕ → Type 0
PartingIn cap t ws c k = Parting cap t.mentions.now t.safepoints.now ws c k

-- the place of a partial split of a piece at a
abbrev pub partial_at : Mode → List ℕ → Piece → ℕ → Option ℕ
partial_at m ms q a = partial_place m q.start (mention_points (part q.mentions ms)) a

-- step 3's split at p, and the register taken for what is left
abbrev pub take_part : List ℕ → List ℕ → ℕ → State → ℕ → ℕ → ℕ → Outcome
take_part ms ss cap s k r p = go_on (split_and_queue (cutting From [] ms ss cap) s k p) (λ t. goes (take_register t k r))

-- ---- steps 2 and 3
-- up to a partial split, if there is one
unfoldable pub grant_part : ℕ → Option ℕ → Option Grant
grant_part r (Some p) = Some (Part r p)
grant_part r None = None

-- a register that is free until a: whole where that is after the end
abbrev pub grant_until : Mode → List ℕ → Piece → ℕ → ℕ → Option Grant
grant_until m ms q r a = choose (ltb q.end a) (Some (Whole r)) (grant_part r (partial_at m ms q a))

-- what a piece gets of a register at its position
unfoldable pub grant_at : Mode → List ℕ → Piece → ℕ → Pos → Option Grant
grant_at m ms q r Blocked = None
grant_at m ms q r (At a) = grant_until m ms q r a
grant_at m ms q r Never = Some (Whole r)

-- .. of the register that was chosen
unfoldable pub grant_of : Mode → List ℕ → Piece → Choice → Option Grant
grant_of m ms q None = None
grant_of m ms q (Some e) = grant_at m ms q e.register e.pos

-- a register was taken, whole or for a part; or step 4 is due
abbrev pub Tried : Type 0
Tried = Option Turn

-- the chosen register was tried for record k: taken as the rules say, whatever the other tables are, or step 4 is due
pub record Tries (cap : ℕ) (m : Mode) (ms ss ws ws' : List ℕ) (c : Counts) (k : ℕ) (x : Choice) (t : Tried) : Type 0 where
  pub taken : (n : ℕ) (cs rs fs is : List ℕ) (z : Turn) → t ≡ Some z → Did cap ms ss ws ws' c z (try_take (stepping n m cs rs fs is ms ss cap) (state_of cap ws c) k x)
  pub blocked : (n : ℕ) (cs rs fs is : List ℕ) → t ≡ None → try_take (stepping n m cs rs fs is ms ss cap) (state_of cap ws c) k x ≡ allocate_blocked (stepping n m cs rs fs is ms ss cap) (state_of cap ws c) k
  pub kept : t ≡ None → ws' ≡ ws
