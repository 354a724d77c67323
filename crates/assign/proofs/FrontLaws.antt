-- The record that a turn pops: its piece is as it was before the pop and after step 1, its class is in the table, and the cursors may rise to its start.
-- Assumes nothing.
use Prim.Native.Nat.{ℕ, ◌<◌}
use mathlib.Core.Path.{◌≡◌, refl, sym, ap, ◌∙◌}
use mathlib.Core.List.{List}
use native.Mathlib.Omega.{arith}
use lib.ListN.{length, get_or}
use Rattle.words.specs.declared.Class.{Class}
use Rattle.words.specs.Packed.{class_at, interval_at, interval_count}
use Rattle.rules.specs.declared.Piece.{Piece}
use Rattle.rules.specs.declared.Pos.{Pos}
use Rattle.rules.specs.State.{State, piece, no_piece, with_queue}
use Rattle.rules.specs.Steps.{drop_ended}
use Rattle.store.specs.declared.Counts.{Counts}
use Rattle.store.specs.declared.Popped.{Popped}
use Rattle.store.specs.StateOf.{state_of, Ready, Got, PoppedAs}
use Rattle.activity.specs.declared.Tracker.{Tracker}
use Rattle.activity.specs.Cursors.{Facing}
use Rattle.activity.specs.Ended.{Dropped}
use Rattle.choice.specs.Holding.{FreeRow}
use Rattle.assign.specs.declared.Start.{Start}
use Rattle.assign.specs.declared.Front.{Front}
use Rattle.assign.specs.Looping.{Started, Turning, Fronted, Faces}

-- step 1 changes no piece
pub dropped_pieces : (s : State) (S : ℕ) → (drop_ended s S).pieces ≡ s.pieces
unfolding drop_ended
dropped_pieces s S = refl

-- ---- the pop, and step 1
pub starts : (cap : ℕ) (ws ws₁ ws₂ : List ℕ) (c d : Counts) (u : Popped) (q : Piece) → Ready cap ws c → PoppedAs cap ws ws₁ c u → Got cap ws₁ u.counts u.record q → Dropped cap ws₁ ws₂ u.counts q.start d
    → Started cap ws ws₂ c (record { «record» = u.record; interval = q.interval; start = q.start; counts = d })
starts cap ws ws₁ ws₂ c d u q h p g e =
    let a = e.after in
    let same : (state_of cap ws₂ d).pieces ≡ (state_of cap ws₁ u.counts).pieces = ap (λ (s : State). s.pieces) a.is ∙ dropped_pieces (state_of cap ws₁ u.counts) q.start in
    let here : q ≡ piece (state_of cap ws₂ d) u.record = g.is ∙ ap (λ (ps : List Piece). get_or ps u.record no_piece) (sym same) in
    let there : q ≡ piece (state_of cap ws c) u.record = g.is ∙ ap (λ (s : State). piece s u.record) p.is in
    record {
      x = p.x;
      xs = p.xs;
      first = p.first;
      names = p.names;
      is = a.is ∙ ap (λ (s : State). drop_ended s q.start) p.is ∙ ap (λ (r : Piece). drop_ended (with_queue p.xs (state_of cap ws c)) r.start) there;
      start = ap (λ (r : Piece). r.start) here;
      interval = ap (λ (r : Piece). r.interval) here;
      owner = omega (arith, g.owner, p.intervals);
      ready = a.ready;
      inside = omega (arith, p.inside, a.records);
      intervals = a.intervals ∙ p.intervals;
      room = omega (arith, a.records, a.queued, e.fewer, p.records, p.queued, p.active, h.held);
      long = a.long ∙ p.long;
    }

-- ---- the front
module _ (cap : ℕ) (cs is ws ws' : List ℕ) (c : Counts) (r : Start) (g : Turning cap cs is ws c) (b : Started cap ws ws' c r) where
  -- its interval has a row, its class an entry
  pub front_row : r.interval < interval_count is
  front_row = omega (arith, b.owner, g.rows)

  pub front_class : (i : ℕ) → i ≡ (interval_at is r.interval).class → i < length cs
  front_class i e = omega (arith, e, g.class r.interval front_row)

  pub fronts : (i : ℕ) (k : Class) → i ≡ (interval_at is r.interval).class → k ≡ class_at cs i
      → Fronted cap cs is ws ws' c (record { «record» = r.record; index = i; class = k; start = r.start; counts = r.counts })
  fronts i k e d =
      record {
        x = b.x;
        xs = b.xs;
        first = b.first;
        names = b.names;
        becomes = b.is;
        ready = b.ready;
        inside = b.inside;
        rows = b.intervals ∙ g.rows;
        room = b.room;
        start = b.start;
        class = d ∙ ap (class_at cs) (e ∙ ap (λ (v : ℕ). (interval_at is v).class) b.interval);
        listed = front_class i e;
        kind = d;
        index = omega (arith, front_class i e, g.few);
        long = b.long;
      }

-- ---- the row
module _ (cap : ℕ) (rs fs ws : List ℕ) (f : Front) (q : Piece) (e : Got cap ws f.counts f.record q) where
  -- the piece that is read is the front's
  pub row_faces : (t : Tracker) → Faces cap rs fs ws f t → Facing rs fs q.start f.class.first f.class.count t
  row_faces t h = rw e.is h.facing

  pub row_free : (o : List Pos) → FreeRow rs fs (state_of cap ws f.counts) q f.class.first f.class.count o
      → FreeRow rs fs (state_of cap ws f.counts) (piece (state_of cap ws f.counts) f.record) f.class.first f.class.count o
  row_free o h = rw e.is at h
