-- A split in the work area is the split of `rules`, and leaves the area ready.
-- Assumes nothing.
use Rattle.std.specs.Prelude.{Ok, Err}
use Prim.Native.Nat.{ℕ, ◌+◌, ◌≤◌, ◌<◌}
use mathlib.Core.Path.{◌≡◌, refl, sym, ◌∙◌}
use mathlib.Core.List.{List}
use native.Mathlib.Omega.{arith}
use lib.ListN.{length}
use borrow.Author.Tests.{lt-ltb, le-ltb}
use Rattle.rules.specs.declared.Refusal.TheVariants.{NoRecord}
use Rattle.rules.specs.declared.Piece.{Piece}
use Rattle.rules.specs.declared.Strategy.{Strategy}
use Rattle.rules.specs.State.{Given, State, goes, stops, with_pieces, enqueue}
use Rattle.rules.specs.Split.{split_pieces, new_record, split, split_and_queue}
use Rattle.uses.specs.Runs.{Rising, Orderly}
use Rattle.uses.specs.Cuts.{Cut}
use Rattle.uses.specs.declared.Halves.{Halves}
use Rattle.store.specs.declared.Counts.{Counts}
use Rattle.store.proofs.StateLaws.{records_are}
use Rattle.store.specs.StateOf.{state_of, After, Got}
use Rattle.split.specs.Fit.{PieceFits}
use Rattle.split.specs.Turns.{cutting, outcome_of, Held, on, off, Does, HalvesPut, Parted}
use Rattle.split.proofs.FitLaws.{fit_split, fit_enqueue}

-- a split for which there is room, and one for which there is none
pub split_room : (g : Given) (s : State) (k p : ℕ) → new_record s < g.capacity → split g s k p ≡ goes (with_pieces (split_pieces g.tables.mentions g.tables.safepoints s.pieces k p) s)
unfolding split
split_room g s k p h = rw (lt-ltb (new_record s) g.capacity h)

pub split_full : (g : Given) (s : State) (k p : ℕ) → g.capacity ≤ new_record s → split g s k p ≡ stops (NoRecord k)
unfolding split
split_full g s k p h = rw (le-ltb (new_record s) g.capacity h)

module _ (cap : ℕ) (ms ss ws : List ℕ) (c : Counts) (k : ℕ) where
  -- the piece that was read fits
  pub got_fits : (q : Piece) → Held cap ms ss ws c k → Got cap ws c k q → PieceFits ms ss q
  got_fits q h g = rw g.is (h.fit.each k (rw (records_are cap ws c h.ready) h.inside))

  -- .. so that its mentions can be walked
  pub got_rising : (q : Piece) → Held cap ms ss ws c k → Got cap ws c k q → Rising q.mentions ms
  got_rising q h g = (got_fits q h g).mentions

  -- .. and it can be cut
  pub got_orderly : (q : Piece) → Held cap ms ss ws c k → Got cap ws c k q → Orderly q ms ss
  got_orderly q h g = record { mentions = (got_fits q h g).mentions; safepoints = (got_fits q h g).safepoints }

  -- both halves were put: the record is split
  pub parted : (q : Piece) (p : ℕ) (h : Halves) (ws₁ : List ℕ) (d : Counts) → Held cap ms ss ws c k → Got cap ws c k q → Cut ms ss q p h → HalvesPut cap ws ws₁ c d k h
      → Parted cap ms ss ws ws₁ c d k p
  unfolding split_pieces
  parted q p h ws₁ d held got cut a =
      record {
        after =
            record {
              is = same;
              ready = a.after.ready;
              records = a.after.records;
              queued = a.after.queued;
              active = a.after.active;
              intervals = a.after.intervals;
              long = a.after.long;
            };
        fit = rw same (fit_split ms ss (state_of cap ws c).pieces k p (rw (records_are cap ws c held.ready) held.inside) held.fit);
      }
    where
      same : state_of cap ws₁ d ≡ with_pieces (split_pieces ms ss (state_of cap ws c).pieces k p) (state_of cap ws c)
      same = a.after.is ∙ rw (cut.parent, cut.child, got.is)

  -- .. and the child is queued
  pub queued : (y : Strategy) (is : List ℕ) (p n : ℕ) (ws₁ ws₂ : List ℕ) (d e : Counts) → Held cap ms ss ws c k → c.records < cap → n ≡ c.records
      → Parted cap ms ss ws ws₁ c d k p → After cap ws₁ ws₂ d e (enqueue (state_of cap ws₁ d) n) d.records (d.queued + 1) d.active
      → Does cap ms ss ws ws₂ c (Ok e) (split_and_queue (cutting y is ms ss cap) (state_of cap ws c) k p)
  unfolding outcome_of split_and_queue
  queued y is p n ws₁ ws₂ d e held room new a b =
      record {
        meets = rw (here, split_room (cutting y is ms ss cap) (state_of cap ws c) k p (rw records room));
        turned =
            on e
            (record {
              ready = b.ready;
              fit = rw b.is (fit_enqueue ms ss (state_of cap ws₁ d) n a.fit);
              records = omega (arith, b.records, a.after.records);
              intervals = b.intervals ∙ a.after.intervals;
              slack = omega (arith, b.records, b.queued, b.active, a.after.records, a.after.queued, a.after.active);
            });
        long = b.long ∙ a.after.long;
      }
    where
      records : length (state_of cap ws c).pieces ≡ c.records
      records = records_are cap ws c held.ready

      here : state_of cap ws₂ e ≡ enqueue (with_pieces (split_pieces ms ss (state_of cap ws c).pieces k p) (state_of cap ws c)) (new_record (state_of cap ws c))
      here = rw (b.is, a.after.is, new, records)

  -- all records are used
  pub full : (y : Strategy) (is : List ℕ) (p : ℕ) → Held cap ms ss ws c k → cap ≤ c.records
      → Does cap ms ss ws ws c (Err (NoRecord k)) (split_and_queue (cutting y is ms ss cap) (state_of cap ws c) k p)
  unfolding outcome_of split_and_queue
  full y is p held used =
      record {
        meets = sym (rw (split_full (cutting y is ms ss cap) (state_of cap ws c) k p (rw (records_are cap ws c held.ready) used)));
        turned = off _;
        long = refl;
      }
