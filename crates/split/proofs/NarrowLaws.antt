-- Splits and spills read no more than the strategy, three tables and the capacity of all that a run is given.
-- Assumes nothing.
use Rattle.std.specs.Prelude.{Option, None, Some}
use Prim.Native.Nat.{ℕ, ◌+◌, min}
use mathlib.Core.Path.{◌≡◌, refl, ap, ◌∙◌}
use mathlib.Core.Bool.{Bool, true, false}
use mathlib.Core.List.{[]}
use lib.Dec.{ltb}
use Rattle.words.specs.Choose.{choose}
use Rattle.rules.specs.declared.Refusal.TheVariants.{NoRecord}
use Rattle.rules.specs.declared.Strategy.TheVariants.{From}
use Rattle.rules.specs.State.{Given, State, goes, stops, go_on, with_pieces}
use Rattle.rules.specs.Slots.{spill}
use Rattle.rules.specs.Split.{split_pieces, new_record, split, split_and_queue, split_if_any, pick, queue_tail, split_and_spill_by, split_and_spill}
use Rattle.rules.specs.Steps.{spill_holder, spill_until}
use Rattle.split.specs.Turns.{cutting}

-- what they read
abbrev pub narrow : Given → Given
narrow g = cutting g.mode.strategy g.tables.intervals g.tables.mentions g.tables.safepoints g.capacity

module _ (g : Given) where
  pub spill_narrow : (s : State) (k : ℕ) → spill g s k ≡ spill (narrow g) s k
  unfolding spill
  spill_narrow s k = refl

  -- a split reads neither the strategy nor the intervals
  pub queue_any : (s : State) (k p : ℕ) → split_and_queue g s k p ≡ split_and_queue (cutting From [] g.tables.mentions g.tables.safepoints g.capacity) s k p
  unfolding split_and_queue split
  queue_any s k p = refl

  -- own spill reads no more than a split and a spill do
  pub until_any : (s : State) (k f : ℕ) → spill_until g s k f ≡ spill_until (cutting From g.tables.intervals g.tables.mentions g.tables.safepoints g.capacity) s k f
  unfolding spill_until split_and_queue split spill
  until_any s k f = refl

  pub if_narrow : (s : State) (k : ℕ) (x : Option ℕ) → split_if_any g s k x ≡ split_if_any (narrow g) s k x
  unfolding split_if_any split_and_queue split
  if_narrow s k None = refl
  if_narrow s k (Some n) = refl

  pub tail_narrow : (s : State) (k p : ℕ) → queue_tail g s k p ≡ queue_tail (narrow g) s k p
  unfolding queue_tail
  tail_narrow s k p = if_narrow s k _

  pub by_narrow : (s : State) (k p : ℕ) (x : Option ℕ) → split_and_spill_by g s k p x ≡ split_and_spill_by (narrow g) s k p x
  unfolding split_and_spill_by split
  by_narrow s k p None = tail_narrow (spill g s k) k p ∙ ap (λ (t : State). queue_tail (narrow g) t k p) (spill_narrow s k)
  by_narrow s k p (Some u) = go (ltb (new_record s) g.capacity)
    where
      parted : State
      parted = with_pieces (split_pieces g.tables.mentions g.tables.safepoints s.pieces k (pick g.mode.strategy (min (u + 1) p) p)) s

      go : (b : Bool)
          → go_on (choose b (goes parted) (stops (NoRecord k))) (λ t. queue_tail g (spill g t (new_record s)) (new_record s) p)
          ≡ go_on (choose b (goes parted) (stops (NoRecord k))) (λ t. queue_tail (narrow g) (spill (narrow g) t (new_record s)) (new_record s) p)
      go true = tail_narrow (spill g parted (new_record s)) (new_record s) p ∙ ap (λ (t : State). queue_tail (narrow g) t (new_record s) p) (spill_narrow parted (new_record s))
      go false = refl

  pub and_narrow : (s : State) (k p : ℕ) → split_and_spill g s k p ≡ split_and_spill (narrow g) s k p
  unfolding split_and_spill
  and_narrow s k p = by_narrow s k p _

  -- what is done to a holder reads no more than a split-and-spill does
  pub holder_narrow : (s : State) (S : ℕ) (h : Option ℕ) → spill_holder g s S h ≡ spill_holder (narrow g) s S h
  unfolding spill_holder
  holder_narrow s S None = refl
  holder_narrow s S (Some j) = and_narrow s j S
