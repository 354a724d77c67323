-- Step 4 in the work area is step 4 of the rules.
-- Assumes nothing.
use Rattle.std.specs.Prelude.{Option, None, Some, Ok, Err}
use Prim.Native.Nat.{ℕ, ◌≤◌, ◌<◌}
use mathlib.Core.Path.{◌≡◌, refl, sym, ap, ◌∙◌}
use mathlib.Core.Bool.{Bool, true, false}
use mathlib.Core.List.{List}
use native.Mathlib.Omega.{arith}
use borrow.Author.Tests.{le-leb, lt-leb}
use Rattle.words.specs.Choose.{choose}
use Rattle.words.specs.Packed.{interval_count}
use Rattle.words.specs.declared.Class.{Class}
use Rattle.rules.specs.declared.Refusal.TheVariants.{NoRegister}
use Rattle.rules.specs.Steps.{Choice}
use Rattle.rules.specs.declared.Mode.{Mode}
use Rattle.rules.specs.declared.Piece.{Piece}
use Rattle.rules.specs.declared.Pos.{Pos}
use Rattle.rules.specs.declared.Pos.TheVariants.{Blocked, At, Never}
use Rattle.rules.specs.Positions.{below}
use Rattle.rules.specs.State.{Given, State, Outcome, goes, stops, go_on, piece, fragments_of}
use Rattle.rules.specs.Split.{partial_split}
use Rattle.rules.specs.Steps.{first_start, take_register, furthest, furthest_of, holder, next_use_pos, only_scratch, cut_at, cut_before, spill_holder, spill_until, take_over, weigh, blocked_by, allocate_blocked}
use Rattle.store.specs.declared.Counts.{Counts}
use Rattle.store.specs.StateOf.{state_of, Got}
use Rattle.store.proofs.StateLaws.{owner_of}
use Rattle.activity.specs.declared.Tracker.{Tracker}
use Rattle.choice.specs.Row.{pos_in, FixedRow}
use Rattle.choice.specs.Holding.{HolderRow, next_pos}
use Rattle.choice.proofs.HoldingLaws.{next_row}
use Rattle.choice.proofs.ChoiceLaws.{Takes, furthest_takes, next_choice, block_start}
use Rattle.split.specs.Turns.{Turn}
use Rattle.split.specs.Turns.{outcome_of, HeldOf, Spilt}
use Rattle.split.proofs.SpillingLaws.{spilt_does}
use Rattle.split.proofs.NarrowLaws.{spill_narrow, queue_any, until_any, and_narrow, holder_narrow}
use Rattle.steps.specs.declared.blocked.NumberedClass.{NumberedClass}
use Rattle.steps.specs.Stepping.{first_use, stepping, placing, class_for, HasClass, NumberedOf, Contending, Weighing, Weighed, Popping, Stepping, take_over_at, weigh_by, Chosen, Did, refused}
use Rattle.steps.proofs.TakingLaws.{did}

-- ---- what is read once the register is known
abbrev placing_by : Given → Given
placing_by g = placing g.mode g.tables.intervals g.tables.mentions g.tables.safepoints g.capacity

module _ (g : Given) where
  cut_narrow : (s : State) (k b : ℕ) (x : Option ℕ) → cut_at g s k b x ≡ cut_at (placing_by g) s k b x
  unfolding cut_at
  cut_narrow s k b (Some p) = queue_any g s k p ∙ sym (queue_any (placing_by g) s k p)
  cut_narrow s k b None = and_narrow g s k b ∙ sym (and_narrow (placing_by g) s k b)

  before_narrow : (s : State) (k : ℕ) (b : Pos) → cut_before g s k b ≡ cut_before (placing_by g) s k b
  unfolding cut_before
  before_narrow s k Blocked = refl
  before_narrow s k (At b) = rw (cut_narrow s k b (partial_split g (piece s k) b))
  before_narrow s k Never = refl

  over_narrow : (s : State) (k r : ℕ) (b : Pos) (h : Option ℕ) → take_over_at g s k r b h ≡ take_over_at (placing_by g) s k r b h
  over_narrow s k r b h = rw (before_narrow (take_register s k r) k b) (go (cut_before (placing_by g) (take_register s k r) k b))
    where
      go : (o : Outcome) → go_on o (λ t. spill_holder g t (piece s k).start h) ≡ go_on o (λ t. spill_holder (placing_by g) t (piece s k).start h)
      go (goes t) = holder_narrow g t (piece s k).start h ∙ sym (holder_narrow (placing_by g) t (piece s k).start h)
      go (stops a) = refl

  -- ---- the weighing: where the block row is the class's, and the choice the furthest of the next uses
  module _ (s : State) (k f first count scratch : ℕ) (row block : List Pos)
      (x : FixedRow g.tables.registers g.tables.fragments first count (piece s k).start (piece s k).end row block) where
    weigh_is : (c : Choice) → c ≡ furthest (next_use_pos g s (piece s k)) scratch first count None → weigh g s k f c ≡ weigh_by (placing_by g) s k f (pos_in block) c
    unfolding weigh weigh_by take_over
    weigh_is None e = until_any g s k f ∙ sym (until_any (placing_by g) s k f)
    weigh_is (Some y) e = go (below (At f) y.pos) refl
      where
        takes : Takes (next_use_pos g s (piece s k)) scratch first count y.register y.pos
        takes = furthest_takes (next_use_pos g s (piece s k)) scratch first count y.register y.pos (sym e)

        over : below (At f) y.pos ≡ true → take_over g s k y.register ≡ take_over_at (placing_by g) s k y.register (pos_in block y.register) (holder s y.register)
        over b =
            let n : below (At f) (next_use_pos g s (piece s k) y.register) ≡ true = rw takes.is at b in
            let w : pos_in block y.register ≡ first_start (piece s k).start (piece s k).end (fragments_of g y.register) = x.held y.register takes.low takes.high ∙ block_start g s (piece s k) y.register f n in
            rw w (over_narrow s k y.register (first_start (piece s k).start (piece s k).end (fragments_of g y.register)) (holder s y.register))

        go : (b : Bool) → below (At f) y.pos ≡ b
            → choose b (take_over g s k y.register) (spill_until g s k f) ≡ choose b (take_over_at (placing_by g) s k y.register (pos_in block y.register) (holder s y.register)) (spill_until (placing_by g) s k f)
        go true b = over b
        go false b = until_any g s k f ∙ sym (until_any (placing_by g) s k f)

-- ---- the code's facts
module _ (cap n : ℕ) (m : Mode) (cs rs fs is ms ss ws : List ℕ) (c : Counts) (t : Tracker) (k : ℕ) where
  pub stepping_held : Stepping cap cs rs fs is ms ss ws c t k → HeldOf cap is ms ss ws c k
  stepping_held h = record { ready = h.ready; fit = h.fit; inside = h.inside; rows = h.rows }

  -- the class of the popped record
  pub has_class : Stepping cap cs rs fs is ms ss ws c t k → HasClass cs is (piece (state_of cap ws c) k).interval
  has_class h =
      let l : (piece (state_of cap ws c) k).interval < interval_count is = rw (← h.rows) (owner_of cap ws c k h.ready h.inside) in
      record { row = l; inside = h.tables.class _ l }

  pub kind_class : (r : NumberedClass) → NumberedOf cs is (piece (state_of cap ws c) k).interval r → r.class ≡ class_for cs is (state_of cap ws c) k
  kind_class r j = j.is_class ∙ rw j.number

  -- ---- the weighing
  module _ (i : ℕ) (x : Class) where
    pub weighing_popping : Weighing cap is ms ss ws c k i x → Popping cap is ms ss ws c k
    weighing_popping h = record { ready = h.ready; fit = h.fit; inside = h.inside; rows = h.rows; room = h.room }

    -- the furthest of a class is one of 64
    pub chosen : (row : List Pos) (o : Choice) → Weighing cap is ms ss ws c k i x → o ≡ furthest (pos_in row) x.scratch x.first x.count None → Chosen o
    chosen row o h e =
        record { below = λ r d. let y = furthest_takes (pos_in row) x.scratch x.first x.count r.register r.pos (sym e ∙ d) in omega (arith, y.high, h.registers) }

    pub uses_weighed : (ws' : List ℕ) (f S : ℕ) (block next : List Pos) (o : Choice) (z : Turn)
        → HolderRow (next_pos ms (state_of cap ws c) S block) (state_of cap ws c) x.first x.count next
        → o ≡ furthest (pos_in next) x.scratch x.first x.count None → Did cap ms ss ws ws' c z (weigh_by (placing m is ms ss cap) (state_of cap ws c) k f (pos_in block) o)
        → Weighed cap m is ms ss ws ws' c k f S x block z
    uses_weighed ws' f S block next o z h e d = record { next = next; held = h; did = rw e at d }

    -- what was weighed is step 4's weighing
    pub weighed : (ws' : List ℕ) (f : ℕ) (q : Piece) (row block : List Pos) (z : Turn) → Contending cap cs rs fs is ms ss ws c t k i x → Got cap ws c k q
        → FixedRow rs fs x.first x.count q.start q.end row block → Weighed cap m is ms ss ws ws' c k f q.start x block z
        → Did cap ms ss ws ws' c z (weigh (stepping n m cs rs fs is ms ss cap) (state_of cap ws c) k f (furthest_of (class_for cs is (state_of cap ws c) k) (next_use_pos (stepping n m cs rs fs is ms ss cap) (state_of cap ws c) (piece (state_of cap ws c) k))))
    weighed ws' f q row block z h g b d =
        let o : Choice = furthest (pos_in d.next) x.scratch x.first x.count None in
        let b' : FixedRow rs fs x.first x.count (piece (state_of cap ws c) k).start (piece (state_of cap ws c) k).end row block = rw g.is at b in
        let h' : HolderRow (next_pos ms (state_of cap ws c) (piece (state_of cap ws c) k).start block) (state_of cap ws c) x.first x.count d.next = rw g.is at d.held in
        let w = next_row rs fs ms (state_of cap ws c) (piece (state_of cap ws c) k) x.first x.count row block d.next b' h' in
        let y = next_choice (stepping n m cs rs fs is ms ss cap) x rs fs (state_of cap ws c) (piece (state_of cap ws c) k) d.next o refl refl refl ms refl w in
        let v = weigh_is (stepping n m cs rs fs is ms ss cap) (state_of cap ws c) k f x.first x.count x.scratch row block b' o y in
        let N : ℕ → Pos = next_use_pos (stepping n m cs rs fs is ms ss cap) (state_of cap ws c) (piece (state_of cap ws c) k) in
        let u : o ≡ furthest_of (class_for cs is (state_of cap ws c) k) N = y ∙ ap (λ (a : Class). furthest_of a N) h.is_class in
        rw (← u, v) d.did

  -- ---- step 4
  -- 11: no register but scratch
  pub scratch_alone : (f : ℕ) (r : NumberedClass) → NumberedOf cs is (piece (state_of cap ws c) k).interval r → r.class.count ≤ 1
      → Did cap ms ss ws ws c (Err (NoRegister k)) (blocked_by (stepping n m cs rs fs is ms ss cap) (state_of cap ws c) k (Some f))
  unfolding blocked_by outcome_of
  scratch_alone f r j l =
      let b : only_scratch (class_for cs is (state_of cap ws c) k) ≡ true = le-leb (class_for cs is (state_of cap ws c) k).count 1 (rw (kind_class r j) at l) in
      record { meets = sym (rw b); ends = refused _; long = refl }

  -- the weighing
  pub more_registers : (ws' : List ℕ) (f : ℕ) (r : NumberedClass) (z : Turn) → NumberedOf cs is (piece (state_of cap ws c) k).interval r → 1 < r.class.count
      → Did cap ms ss ws ws' c z (weigh (stepping n m cs rs fs is ms ss cap) (state_of cap ws c) k f (furthest_of (class_for cs is (state_of cap ws c) k) (next_use_pos (stepping n m cs rs fs is ms ss cap) (state_of cap ws c) (piece (state_of cap ws c) k))))
      → Did cap ms ss ws ws' c z (blocked_by (stepping n m cs rs fs is ms ss cap) (state_of cap ws c) k (Some f))
  unfolding blocked_by
  more_registers ws' f r z j l d =
      let b : only_scratch (class_for cs is (state_of cap ws c) k) ≡ false = lt-leb (class_for cs is (state_of cap ws c) k).count 1 (rw (kind_class r j) at l) in
      rw b d

  module _ (u : Option ℕ) (e : u ≡ first_use ms (piece (state_of cap ws c) k)) where
    -- no mention: spilled whole
    pub unmentioned : (ws' : List ℕ) (d : Counts) → Stepping cap cs rs fs is ms ss ws c t k → u ≡ None → Spilt cap is ws ws' c d k
        → Did cap ms ss ws ws' c (Ok d) (allocate_blocked (stepping n m cs rs fs is ms ss cap) (state_of cap ws c) k)
    unfolding allocate_blocked blocked_by
    unmentioned ws' d h i s =
        let v : first_use ms (piece (state_of cap ws c) k) ≡ None = sym e ∙ i in
        rw (v, spill_narrow (stepping n m cs rs fs is ms ss cap) (state_of cap ws c) k)
        (did cap ms ss ws ws' c (Ok d) _ (spilt_does cap is ms ss ws ws' c d k m.strategy (stepping_held h) s))

    pub mentioned : (ws' : List ℕ) (f : ℕ) (z : Turn) → u ≡ Some f → Did cap ms ss ws ws' c z (blocked_by (stepping n m cs rs fs is ms ss cap) (state_of cap ws c) k (Some f))
        → Did cap ms ss ws ws' c z (allocate_blocked (stepping n m cs rs fs is ms ss cap) (state_of cap ws c) k)
    unfolding allocate_blocked
    mentioned ws' f z i d = let v : first_use ms (piece (state_of cap ws c) k) ≡ Some f = sym e ∙ i in rw v d
