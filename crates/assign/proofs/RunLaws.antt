-- The main loop: what is left to run is what there was to run. The state at its head is one that the rules reach, so nothing queued starts before the last start, and the cursors may only rise.
-- Assumes nothing.
use Rattle.std.specs.Prelude.{Ok, Err, Some, None}
use Prim.Native.Nat.{ℕ, zero, suc, ◌+◌, ◌-◌, ◌/◌, ◌≤◌, ◌<◌}
use mathlib.Core.Path.{◌≡◌, refl, sym, ap, ◌∙◌}
use mathlib.Core.List.{List, [], ◌∷◌, Memᴰ}
use native.Mathlib.Omega.{arith}
use native.Mathlib.Nat.{sub-zero}
use lib.ListN.{length, get_or, set, replicate, length-set}
use lib.Seq.{get_or-set_same}
use Rattle.words.specs.Rows.{tab}
use Rattle.words.proofs.Rows.{length_tab, get_d_tab}
use Rattle.words.specs.Packed.{interval_count}
use Rattle.rules.specs.declared.Refusal.{Refusal}
use Rattle.rules.specs.declared.Mode.{Mode}
use Rattle.rules.specs.declared.Piece.{Piece}
use Rattle.rules.specs.declared.Pos.{Pos}
use Rattle.rules.specs.declared.Pos.TheVariants.{Never}
use Rattle.rules.specs.Tables.{Tables}
use Rattle.rules.specs.Accepted.{Accepted}
use Rattle.rules.specs.State.{Given, State, Outcome, goes, go_on, piece, no_piece, with_queue, record_of_key, enqueue}
use Rattle.rules.specs.Steps.{drop_ended, step}
use Rattle.rules.specs.Run.{whole_interval, unqueued, enqueue_all, begin, run}
use Rattle.rules.specs.Call.{run_for}
use Rattle.rules.proofs.Runs.{run_empty, run_more}
use Rattle.theorems.specs.Reach.{Reached, begins, pops}
use Rattle.theorems.proofs.Loop.{reached_inv, pop_start, queue_ahead}
use Rattle.uses.proofs.RunLaws.{rising_of, ascending_of, sub_refl}
use Rattle.store.specs.declared.Counts.{Counts}
use Rattle.store.specs.StateOf.{state_of, Ready}
use Rattle.store.proofs.StateLaws.{queue_empty}
use Rattle.activity.specs.declared.Tracker.{Tracker}
use Rattle.activity.specs.Cursors.{Cursors, Facing, fresh_of}
use Rattle.activity.proofs.CursorLaws.{fixed_tables_lem, fresh_cursors, ready, updated_facing}
use Rattle.choice.specs.Holding.{FreeRow}
use Rattle.split.specs.Turns.{Turn}
use Rattle.split.specs.Fit.{PieceFits, Fit}
use Rattle.split.specs.Turns.{outcome_of}
use Rattle.steps.specs.Stepping.{Tabled, Stepping, stepping, Did}
use Rattle.tables.specs.Given.{tables}
use Rattle.assign.specs.declared.Front.{Front}
use Rattle.assign.specs.Calling.{Checked, Begun, Ran, Ends}
use Rattle.assign.specs.Calling as calling
use Rattle.assign.specs.Looping.{Turning, Fronted, Trackable, tracked_to, Faces, Takes, Read, Settling, settled, contended}
use Rattle.steps.specs.Stepping.{Tried}
use Rattle.assign.proofs.FrontLaws.{dropped_pieces}
use Rattle.assign.proofs.SettleLaws.{did_stays}

-- ---- what accepted tables give
tabled : (T : Tables) → Accepted T → Tabled T.classes T.registers T.fragments T.intervals
tabled T a = record { few = a.limits.classes; class = λ v h. (a.intervals v h).class; inside = λ c h. (a.classes c h).inside; fixed = fixed_tables_lem T a }

-- queueing changes no piece
queued_pieces : (n : ℕ) (s : State) → (enqueue_all n s).pieces ≡ s.pieces
unfolding enqueue_all enqueue
queued_pieces zero s = refl
queued_pieces (suc n) s = queued_pieces n s

-- the first pieces are whole intervals, which fit
begin_fit : (T : Tables) → Accepted T → Fit T.mentions T.safepoints (begin T.intervals).pieces
unfolding begin
begin_fit T a = rw (queued_pieces (interval_count T.intervals) (unqueued T.intervals)) (record { each = λ k h. whole k (rw (length_tab (interval_count T.intervals) (whole_interval T.intervals)) at h) })
  where
    whole : (k : ℕ) → k < interval_count T.intervals → PieceFits T.mentions T.safepoints (get_or (tab (interval_count T.intervals) (whole_interval T.intervals)) k no_piece)
    whole k h =
        rw (get_d_tab (interval_count T.intervals) k (whole_interval T.intervals) no_piece h)
        (record { mentions = rising_of T a k h _ (sub_refl _); safepoints = ascending_of T a k h _ (sub_refl _) })

-- the loop's invariant
pub record Going (n : ℕ) (m : Mode) (cs rs fs is ms ss : List ℕ) (cap : ℕ) (ws₀ ws : List ℕ) (c : Counts) (t : Tracker) (free : List (List Pos)) (turn : ℕ) : Type 0 where
  pub checked : Checked (tables n cs rs fs is ms ss) cap ws
  pub rest : run (cap - turn) (stepping n m cs rs fs is ms ss cap) (state_of cap ws c) ≡ run_for m (tables n cs rs fs is ms ss) cap
  pub last : ℕ
  pub reached : Reached (stepping n m cs rs fs is ms ss cap) last (state_of cap ws c)
  pub cursors : Cursors rs fs last t
  pub ready : Ready cap ws c
  pub fit : Fit ms ss (state_of cap ws c).pieces
  pub rows : c.intervals ≡ interval_count is
  pub turns : turn ≤ cap
  pub long : length ws ≡ length ws₀
  pub wide : length free ≡ 8

-- ---- it starts
pub going_few : (n : ℕ) (cs rs fs is ms ss : List ℕ) (cap : ℕ) (ws : List ℕ) (c : Counts) → Begun (tables n cs rs fs is ms ss) cap ws c → length rs ≤ 64
going_few n cs rs fs is ms ss cap ws c b = b.checked.sound.limits.registers

pub going_starts : (n : ℕ) (m : Mode) (cs rs fs is ms ss : List ℕ) (cap : ℕ) (ws : List ℕ) (c : Counts) (t : Tracker) (free : List (List Pos))
    → Begun (tables n cs rs fs is ms ss) cap ws c → t ≡ fresh_of rs → free ≡ replicate 8 (replicate 64 Never) → Going n m cs rs fs is ms ss cap ws ws c t free 0
unfolding run_for
going_starts n m cs rs fs is ms ss cap ws c t free b e f =
    record {
      checked = b.checked;
      rest = rw (sub-zero cap, b.begins);
      last = 0;
      reached = rw b.begins begins;
      cursors = rw e (fresh_cursors rs fs (fixed_tables_lem (tables n cs rs fs is ms ss) b.checked.sound));
      ready = b.ready;
      fit = rw b.begins (begin_fit (tables n cs rs fs is ms ss) b.checked.sound);
      rows = b.rows;
      turns = omega arith;
      long = refl;
      wide = rw f;
    }

module _ (n : ℕ) (m : Mode) (cs rs fs is ms ss : List ℕ) (cap : ℕ) (ws₀ ws : List ℕ) (c : Counts) (t : Tracker) (free : List (List Pos)) (turn : ℕ) (o : Going n m cs rs fs is ms ss cap ws₀ ws c t free turn) where
  -- a queued key is its record's start, and not before the last
  keyed : (x : ℕ) → Memᴰ x (state_of cap ws c).queue → (piece (state_of cap ws c) (record_of_key x)).start ≡ x / 16384
  keyed x h =
      let g : Given = stepping n m cs rs fs is ms ss cap in
      pop_start g o.checked.sound o.checked.most o.last (state_of cap ws c) x (reached_inv g o.checked.sound o.checked.most o.checked.inside o.last (state_of cap ws c) o.reached) h

  pub going_turns : Turning cap cs is ws c
  going_turns =
      let a = tabled (tables n cs rs fs is ms ss) o.checked.sound in
      record { ready = o.ready; rows = o.rows; few = a.few; class = a.class }

  -- nothing is queued
  pub going_empty : c.queued ≡ 0 → Ran m (tables n cs rs fs is ms ss) cap ws₀ ws (Ok c)
  unfolding outcome_of
  going_empty e =
      record {
        meets = sym (run_empty (cap - turn) (stepping n m cs rs fs is ms ss cap) (state_of cap ws c) (queue_empty cap ws c e)) ∙ o.rest;
        ends = calling.done c o.ready;
        long = o.long;
      }

  -- as many turns as the capacity
  pub going_out : cap ≤ turn → Ran m (tables n cs rs fs is ms ss) cap ws₀ ws (Ok c)
  unfolding outcome_of run
  going_out h = let left : cap - turn ≡ 0 = omega arith in record { meets = rw left at o.rest; ends = calling.done c o.ready; long = o.long }

  -- ---- a turn
  module _ (ws₁ : List ℕ) (f : Front) (p : Fronted cap cs is ws ws₁ c f) where
    pieces_stay : (state_of cap ws₁ f.counts).pieces ≡ (state_of cap ws c).pieces
    pieces_stay = ap (λ (s : State). s.pieces) p.becomes ∙ dropped_pieces (with_queue p.xs (state_of cap ws c)) _

    -- the record's start is that of its key, not before the last
    started : f.start ≡ p.x / 16384
    started =
        let begun : Memᴰ p.x (state_of cap ws c).queue = rw p.first (mathlib.Core.List.Memᴰ.head refl) in
        p.start ∙ ap (λ (ps : List Piece). (get_or ps f.record no_piece).start) pieces_stay ∙ ap (λ (k : ℕ). (piece (state_of cap ws c) k).start) p.names ∙ keyed p.x begun

    later : o.last ≤ f.start
    later =
        let g : Given = stepping n m cs rs fs is ms ss cap in
        let begun : Memᴰ p.x (state_of cap ws c).queue = rw p.first (mathlib.Core.List.Memᴰ.head refl) in
        omega (arith, started, queue_ahead g o.checked.sound o.checked.most o.checked.inside o.last (state_of cap ws c) o.reached p.x begun)

    class_inside : f.class.first + f.class.count ≤ length rs
    class_inside = rw p.kind ((tabled (tables n cs rs fs is ms ss) o.checked.sound).inside f.index p.listed)

    pub going_tracks : Trackable rs fs t f
    going_tracks =
        record {
          ready = ready (fixed_tables_lem (tables n cs rs fs is ms ss) o.checked.sound) f.class.first f.class.count class_inside o.cursors;
          few = omega (arith, p.ready.held, p.ready.records, p.ready.most);
        }

    module _ (u : Tracker) (moves : u ≡ tracked_to rs fs t f) where
      faced : Facing rs fs (piece (state_of cap ws₁ f.counts) f.record).start f.class.first f.class.count u
      faced =
          rw (moves, ← p.start)
          (updated_facing (fixed_tables_lem (tables n cs rs fs is ms ss) o.checked.sound) f.class.first f.class.count class_inside o.cursors f.start f.counts.active later)

      pub going_faces : Faces cap rs fs ws₁ f u
      going_faces = record { ready = p.ready; inside = p.inside; facing = faced }

      pub going_steps : Stepping cap cs rs fs is ms ss ws₁ f.counts u f.record
      going_steps =
          record {
            ready = p.ready;
            fit = rw pieces_stay o.fit;
            inside = p.inside;
            rows = p.rows;
            room = p.room;
            tables = tabled (tables n cs rs fs is ms ss) o.checked.sound;
            facing = rw p.class at faced;
          }

    pub going_takes : Takes cap is ms ss ws₁ f
    going_takes =
        record {
          popping = record { ready = p.ready; fit = rw pieces_stay o.fit; inside = p.inside; rows = p.rows; room = p.room };
          registers = omega (arith, class_inside, o.checked.sound.limits.registers);
        }

    -- the row that was put into the table is taken out again
    going_read : (row : List Pos) → FreeRow rs fs (state_of cap ws₁ f.counts) (piece (state_of cap ws₁ f.counts) f.record) f.class.first f.class.count row
        → Read cap cs rs fs is ws₁ f (get_or (set free f.index row) f.index [])
    going_read row h = record { class = p.class; free = rw (get_or-set_same free f.index row [] (omega (arith, p.index, o.wide))) h }

    -- the turn is steps 2 to 5, of which 4 may have been called apart
    module _ (row : List Pos) (w : FreeRow rs fs (state_of cap ws₁ f.counts) (piece (state_of cap ws₁ f.counts) f.record) f.class.first f.class.count row) (ws₂ : List ℕ) (x : Tried)
        (y : Settling cap m is ms ss ws₁ ws₂ f (get_or (set free f.index row) f.index []) x) where
      pub did_settle : (z : Turn) → x ≡ Some z → Did cap ms ss ws₁ ws₂ f.counts z (settled (stepping n m cs rs fs is ms ss cap) (state_of cap ws₁ f.counts) f.record)
      did_settle z q = y.taken n cs rs fs (going_read row w) z q

      pub still_steps : (u : Tracker) → u ≡ tracked_to rs fs t f → x ≡ None → Stepping cap cs rs fs is ms ss ws₂ f.counts u f.record
      still_steps u moves q = rw (y.kept q) (going_steps u moves)

      pub did_contend : (ws₃ : List ℕ) (z : Turn) → x ≡ None → Did cap ms ss ws₂ ws₃ f.counts z (contended (stepping n m cs rs fs is ms ss cap) (state_of cap ws₂ f.counts) f.record)
          → Did cap ms ss ws₁ ws₃ f.counts z (settled (stepping n m cs rs fs is ms ss cap) (state_of cap ws₁ f.counts) f.record)
      did_contend ws₃ z q d = rw (y.blocked n cs rs fs (going_read row w) q) (rw (y.kept q) at d)

    module _ (ws₂ : List ℕ) (r : Turn) (h : turn < cap) (d : Did cap ms ss ws₁ ws₂ f.counts r (settled (stepping n m cs rs fs is ms ss cap) (state_of cap ws₁ f.counts) f.record)) where
      -- the turn is the rules' step
      stepped : outcome_of cap ws₂ r ≡ step (stepping n m cs rs fs is ms ss cap) (with_queue p.xs (state_of cap ws c)) (record_of_key p.x)
      unfolding step
      stepped =
          d.meets
          ∙ ap (λ (s : State). settled (stepping n m cs rs fs is ms ss cap) s f.record) p.becomes
          ∙ ap (λ (k : ℕ). settled (stepping n m cs rs fs is ms ss cap) (drop_ended (with_queue p.xs (state_of cap ws c)) (piece (state_of cap ws c) k).start) k) p.names

      left : cap - turn ≡ suc (cap - (turn + 1))
      left = omega arith

      turned : go_on (outcome_of cap ws₂ r) (λ u. run (cap - (turn + 1)) (stepping n m cs rs fs is ms ss cap) u) ≡ run_for m (tables n cs rs fs is ms ss) cap
      turned =
          ap (λ (x : Outcome). go_on x (λ u. run (cap - (turn + 1)) (stepping n m cs rs fs is ms ss cap) u)) stepped
          ∙ sym (run_more (cap - (turn + 1)) (stepping n m cs rs fs is ms ss cap) (state_of cap ws c) p.x p.xs p.first)
          ∙ ap (λ (k : ℕ). run k (stepping n m cs rs fs is ms ss cap) (state_of cap ws c)) (sym left)
          ∙ o.rest

      pub going_on : (u : Tracker) → u ≡ tracked_to rs fs t f → (e : Counts) (i : ℕ) (row : List Pos) → r ≡ Ok e → Going n m cs rs fs is ms ss cap ws₀ ws₂ e u (set free i row) (turn + 1)
      unfolding outcome_of
      going_on u moves e i row q =
          let w = did_stays cap ms ss ws₁ ws₂ f.counts e r _ d q in
          let to : outcome_of cap ws₂ r ≡ goes (state_of cap ws₂ e) = rw q in
          let at : (piece (state_of cap ws₁ f.counts) f.record).start ≡ p.x / 16384 = sym p.start ∙ started in
          record {
            checked = record { sound = o.checked.sound; most = o.checked.most; long = omega (arith, o.checked.long, d.long, p.long); inside = o.checked.inside };
            rest = rw q at turned;
            last = p.x / 16384;
            reached = pops o.last (state_of cap ws c) p.x p.xs (state_of cap ws₂ e) o.reached p.first (sym stepped ∙ to);
            cursors = rw at at (faced u moves).cursors;
            ready = w.ready;
            fit = w.fit;
            rows = w.intervals ∙ p.rows;
            turns = omega arith;
            long = d.long ∙ p.long ∙ o.long;
            wide = simp length-set o.wide;
          }

      pub going_off : (a : Refusal) → r ≡ Err a → Ran m (tables n cs rs fs is ms ss) cap ws₀ ws₂ (Err a)
      unfolding outcome_of
      going_off a q = record { meets = rw q at turned; ends = calling.refused a; long = d.long ∙ p.long ∙ o.long }
