-- A spill and a split-and-spill in the work area are those of `rules`, and leave the area ready.
-- Assumes nothing.
use Rattle.std.specs.Prelude.{Option, None, Some, Ok, Err}
use Prim.Native.Nat.{ℕ, ◌+◌, ◌*◌, ◌^◌, ◌≤◌, ◌<◌, min}
use mathlib.Core.Path.{◌≡◌, refl, sym, ◌∙◌}
use mathlib.Core.List.{List, []}
use native.Mathlib.Omega.{arith}
use lib.ListN.{length, get_or}
use Rattle.words.specs.Field.{bits}
use Rattle.words.specs.Packed.{part}
use Rattle.rules.specs.declared.Refusal.TheVariants.{NoRecord}
use Rattle.rules.specs.declared.Piece.{Piece}
use Rattle.rules.specs.declared.Strategy.{Strategy}
use Rattle.rules.specs.declared.Strategy.TheVariants.{From}
use Rattle.rules.specs.Uses.{mention_points, next_use, last_use}
use Rattle.rules.specs.State.{State, Outcome, goes, piece}
use Rattle.rules.specs.Slots.{spill, spill_to}
use Rattle.rules.specs.Split.{split, split_and_queue, split_if_any, pick, queue_tail, split_and_spill_by, split_and_spill}
use Rattle.uses.specs.Runs.{Rising}
use Rattle.store.specs.declared.Counts.{Counts}
use Rattle.store.specs.StateOf.{state_of, After, Got}
use Rattle.store.proofs.StateLaws.{records_are}
use Rattle.split.specs.Turns.{Turn}
use Rattle.split.specs.Turns.{cutting, outcome_of, Held, HeldOf, Turned, on, off, Does, Parted, Spilt}
use Rattle.split.proofs.FitLaws.{fit_spill}
use Rattle.split.proofs.SplitLaws.{split_room, split_full, got_rising}

-- what a turn leaves, seen from counts before
pub further : (cap : ℕ) (ms ss ws : List ℕ) (c e : Counts) (r : Turn) → c.records ≤ e.records → e.intervals ≡ c.intervals
    → e.queued + e.active + c.records ≤ c.queued + c.active + e.records → Turned cap ms ss ws e r → Turned cap ms ss ws c r
further cap ms ss ws c e r l i w (on d h) =
    on d (record { ready = h.ready; fit = h.fit; records = omega (arith, h.records); intervals = h.intervals ∙ i; slack = omega (arith, h.slack, h.records) })
further cap ms ss ws c e r l i w (off a) = off a

-- the spill of the store is the spill of the rules: the slot's size is the interval's
pub spilt : (cap : ℕ) (is ws ws' : List ℕ) (c d : Counts) (k : ℕ) (q : Piece) (log : ℕ) → Got cap ws c k q → log ≡ bits 26 2 (get_or is (q.interval * 4) 0)
    → After cap ws ws' c d (spill_to (state_of cap ws c) k (2 ^ log) (get_or (state_of cap ws c).homes (piece (state_of cap ws c) k).interval None)) c.records c.queued c.active
    → Spilt cap is ws ws' c d k
unfolding spill
spilt cap is ws ws' c d k q log g e a =
    record { after = record { is = rw (rw g.is at e) at a.is; ready = a.ready; records = a.records; queued = a.queued; active = a.active; intervals = a.intervals; long = a.long } }

module _ (cap : ℕ) (ms ss : List ℕ) where
  -- nothing is done
  pub stays : (ws : List ℕ) (c : Counts) (k : ℕ) (o : Outcome) → Held cap ms ss ws c k → goes (state_of cap ws c) ≡ o → Does cap ms ss ws ws c (Ok c) o
  unfolding outcome_of
  stays ws c k o h e =
      record { meets = e; turned = on c (record { ready = h.ready; fit = h.fit; records = omega arith; intervals = refl; slack = omega arith }); long = refl }

  -- no use follows; or the spilled record is split there
  pub tail_none : (y : Strategy) (is ws : List ℕ) (c : Counts) (k p : ℕ) (q : Piece) (x : Option ℕ) → Held cap ms ss ws c k → Got cap ws c k q
      → x ≡ next_use p (mention_points (part q.mentions ms)) → x ≡ None → Does cap ms ss ws ws c (Ok c) (queue_tail (cutting y is ms ss cap) (state_of cap ws c) k p)
  unfolding queue_tail split_if_any
  tail_none y is ws c k p q x h g e n = let e' : next_use p (mention_points (part q.mentions ms)) ≡ None = sym e ∙ n in stays ws c k _ h (rw (← g.is, e'))

  pub tail_some : (y : Strategy) (is ws ws' : List ℕ) (c : Counts) (k p n : ℕ) (q : Piece) (x : Option ℕ) (r : Turn) → Got cap ws c k q
      → x ≡ next_use p (mention_points (part q.mentions ms)) → x ≡ Some n → Does cap ms ss ws ws' c r (split_and_queue (cutting y is ms ss cap) (state_of cap ws c) k n)
      → Does cap ms ss ws ws' c r (queue_tail (cutting y is ms ss cap) (state_of cap ws c) k p)
  unfolding queue_tail split_if_any
  tail_some y is ws ws' c k p n q x r g e m d =
      let e' : next_use p (mention_points (part q.mentions ms)) ≡ Some n = sym e ∙ m in record { meets = rw (← g.is, e') d.meets; turned = d.turned; long = d.long }

  -- the mentions of the piece that was read can be walked
  pub of_rising : (is ws : List ℕ) (c : Counts) (k : ℕ) (q : Piece) → HeldOf cap is ms ss ws c k → Got cap ws c k q → Rising q.mentions ms
  of_rising is ws c k q h g = got_rising cap ms ss ws c k q (record { ready = h.ready; fit = h.fit; inside = h.inside }) g

  -- the area is held after a spill
  pub spilt_held : (is ws ws' : List ℕ) (c d : Counts) (k j : ℕ) → HeldOf cap is ms ss ws c k → Spilt cap is ws ws' c d k → j < c.records → Held cap ms ss ws' d j
  spilt_held is ws ws' c d k j h s l =
      record {
        ready = s.after.ready;
        fit = rw s.after.is (fit_spill ms ss _ (state_of cap ws c) k (rw (records_are cap ws c h.ready) h.inside) h.fit);
        inside = omega (arith, s.after.records);
      }

  pub spilt_same : (is ws ws' : List ℕ) (c d : Counts) (k : ℕ) → HeldOf cap is ms ss ws c k → Spilt cap is ws ws' c d k → Held cap ms ss ws' d k
  spilt_same is ws ws' c d k h s = spilt_held is ws ws' c d k k h s h.inside

  -- the strategy and the intervals have no part in what is queued
  if_any : (y : Strategy) (is : List ℕ) (s : State) (k : ℕ) (x : Option ℕ) → split_if_any (cutting y is ms ss cap) s k x ≡ split_if_any (cutting From [] ms ss cap) s k x
  unfolding split_if_any split_and_queue split
  if_any y is s k None = refl
  if_any y is s k (Some n) = refl

  pub tail_any : (y : Strategy) (is : List ℕ) (s : State) (k p : ℕ) → queue_tail (cutting y is ms ss cap) s k p ≡ queue_tail (cutting From [] ms ss cap) s k p
  unfolding queue_tail
  tail_any y is s k p = if_any y is s k _

  -- nor the strategy in a spill
  pub spill_any : (y : Strategy) (is : List ℕ) (s : State) (k : ℕ) → spill (cutting y is ms ss cap) s k ≡ spill (cutting From is [] [] cap) s k
  unfolding spill
  spill_any y is s k = refl

  -- the record is spilled, then its tail queued
  pub tail_spilt : (is ws ws₁ ws₂ : List ℕ) (c e : Counts) (k p : ℕ) (r : Turn) → Spilt cap is ws ws₁ c e k
      → Does cap ms ss ws₁ ws₂ e r (queue_tail (cutting From [] ms ss cap) (state_of cap ws₁ e) k p)
      → Does cap ms ss ws ws₂ c r (queue_tail (cutting From is ms ss cap) (spill (cutting From is ms ss cap) (state_of cap ws c) k) k p)
  tail_spilt is ws ws₁ ws₂ c e k p r s b =
      record {
        meets = rw (tail_any From is, spill_any From is, ← s.after.is) b.meets;
        turned = further cap ms ss ws₂ c e r (omega (arith, s.after.records)) s.after.intervals (omega (arith, s.after)) b.turned;
        long = b.long ∙ s.after.long;
      }

  module _ (y : Strategy) (is ws : List ℕ) (c : Counts) (k p : ℕ) where
    -- 10: there is no record for the child
    pub after_full : (u : ℕ) → HeldOf cap is ms ss ws c k → cap ≤ c.records
        → Does cap ms ss ws ws c (Err (NoRecord k)) (split_and_spill_by (cutting y is ms ss cap) (state_of cap ws c) k p (Some u))
    unfolding outcome_of split_and_spill_by
    after_full u h l =
        record {
          meets = sym (rw (split_full (cutting y is ms ss cap) (state_of cap ws c) k (pick y (min (u + 1) p) p) (rw (records_are cap ws c h.ready) l)));
          turned = off _;
          long = refl;
        }

    -- the child is spilled, and its tail queued
    pub after_last : (u from at new : ℕ) (ws₁ ws₂ : List ℕ) (d : Counts) (r : Turn) → HeldOf cap is ms ss ws c k → c.records < cap → new ≡ c.records
        → from ≡ min (u + 1) p → at ≡ pick y from p → Parted cap ms ss ws ws₁ c d k at
        → Does cap ms ss ws₁ ws₂ d r (queue_tail (cutting From is ms ss cap) (spill (cutting From is ms ss cap) (state_of cap ws₁ d) new) new p)
        → Does cap ms ss ws ws₂ c r (split_and_spill_by (cutting y is ms ss cap) (state_of cap ws c) k p (Some u))
    unfolding split_and_spill_by
    after_last u from at new ws₁ ws₂ d r h room n f a s b =
        record {
          meets = b.meets ∙ rw (tail_any From is, spill_any From is, s.after.is, n, a, f) (sym (rw (split_room (cutting y is ms ss cap) (state_of cap ws c) k (pick y (min (u + 1) p) p) (rw records room), tail_any y is, spill_any y is, records)));
          turned = further cap ms ss ws₂ c d r (omega (arith, s.after.records)) s.after.intervals (omega (arith, s.after)) b.turned;
          long = b.long ∙ s.after.long;
        }
      where
        records : length (state_of cap ws c).pieces ≡ c.records
        records = records_are cap ws c h.ready

    -- a last use was found: what is done by it is split-and-spill
    pub last_some : (u : ℕ) (ws' : List ℕ) (q : Piece) (x : Option ℕ) (r : Turn) → Got cap ws c k q → x ≡ last_use p (mention_points (part q.mentions ms)) → x ≡ Some u
        → Does cap ms ss ws ws' c r (split_and_spill_by (cutting y is ms ss cap) (state_of cap ws c) k p (Some u))
        → Does cap ms ss ws ws' c r (split_and_spill (cutting y is ms ss cap) (state_of cap ws c) k p)
    unfolding split_and_spill
    last_some u ws' q x r g e m d =
        let e' : last_use p (mention_points (part q.mentions ms)) ≡ Some u = sym e ∙ m in record { meets = rw (← g.is, e') d.meets; turned = d.turned; long = d.long }

    -- none: the piece itself is spilled, and its tail queued
    pub last_none : (ws' : List ℕ) (q : Piece) (x : Option ℕ) (r : Turn) → Got cap ws c k q → x ≡ last_use p (mention_points (part q.mentions ms)) → x ≡ None
        → Does cap ms ss ws ws' c r (queue_tail (cutting From is ms ss cap) (spill (cutting From is ms ss cap) (state_of cap ws c) k) k p)
        → Does cap ms ss ws ws' c r (split_and_spill (cutting y is ms ss cap) (state_of cap ws c) k p)
    unfolding split_and_spill split_and_spill_by
    last_none ws' q x r g f n b =
        let f' : last_use p (mention_points (part q.mentions ms)) ≡ None = sym f ∙ n in
        record { meets = rw (← g.is, f', tail_any y is, spill_any y is) (rw (tail_any From is, spill_any From is) at b.meets); turned = b.turned; long = b.long }
