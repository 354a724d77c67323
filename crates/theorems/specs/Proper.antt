-- That each split and each spill of a step is well-defined, wherever the step comes to one: a predicate beside each part of the steps, which reads as that part does. For the contracts of code.
use Rattle.std.specs.Prelude.{ℕ, ◌+◌, ◌≤◌, ◌<◌, min, ◌≡◌, ◌≢◌, true, false, ◌&&◌, List, [], ◌∷◌, ltb, length, Option, None, Some}
use Rattle.words.specs.Points.{use_point, def_point}
use Rattle.rules.specs.Steps.{Choice}
use Rattle.std.specs.Prelude.{None, Some}
use Rattle.rules.specs.declared.Place.TheVariants.{Slot}
use Rattle.rules.specs.declared.Pos.{Pos}
use Rattle.rules.specs.declared.Pos.TheVariants.{Blocked, At, Never}
use Rattle.rules.specs.Positions.{below}
use Rattle.rules.specs.Uses.{is_point, next_use, last_use}
use Rattle.rules.specs.State.{Given, State, piece, points_of, safepoints_of, interval_of, class_of, fragments_of}
use Rattle.rules.specs.Slots.{spill}
use Rattle.rules.specs.Split.{new_record, split, split_and_queue, split_if_any, pick, partial_split}
use Rattle.rules.specs.Steps.{in_register, drop_ended, first_start, holder, free_until, furthest_of, take_register, next_use_pos, only_scratch, cut_before, allocate}
use Rattle.theorems.specs.Invariant.{Good}

-- a split of record k at p: a record, and p inside it, above its start
pub record SplitOk (s : State) (k p : ℕ) : Type 0 where
  pub here : k < length s.pieces
  pub above : (piece s k).start < p
  pub below : p ≤ (piece s k).end

-- a spill of record k: a record that is not spilled yet
pub record SpillOk (s : State) (k : ℕ) : Type 0 where
  pub here : k < length s.pieces
  pub unspilled : (t : ℕ) → (piece s k).place ≢ Slot t

module _ (g : Given) where
  -- beside split_if_any
  abbrev pub IfAnyOk : State → ℕ → Option ℕ → Type 0
  IfAnyOk s k None = Unit
  IfAnyOk s k (Some n) = SplitOk s k n

  -- beside spill and queue_tail
  abbrev pub SpillTailOk : State → ℕ → ℕ → Type 0
  SpillTailOk s k p = SpillOk s k × IfAnyOk (spill g s k) k (next_use p (points_of g (piece (spill g s k) k)))

  -- beside split_and_spill_by and split_and_spill
  abbrev pub SpillByOk : State → ℕ → ℕ → Option ℕ → Type 0
  SpillByOk s k p (Some u) =
      SplitOk s k (pick g.mode.strategy (min (u + 1) p) p) × Good (λ t. SpillTailOk t (new_record s) p) (split g s k (pick g.mode.strategy (min (u + 1) p) p))
  SpillByOk s k p None = SpillTailOk s k p

  abbrev pub SpillAtOk : State → ℕ → ℕ → Type 0
  SpillAtOk s k p = SpillByOk s k p (last_use p (points_of g (piece s k)))

  -- beside spill_until
  abbrev pub UntilOk : State → ℕ → ℕ → Type 0
  UntilOk s k f = f ≢ (piece s k).start → SplitOk s k f × Good (λ t. SpillOk t k) (split_and_queue g s k f)

  -- beside cut_at and cut_before
  abbrev pub CutAtOk : State → ℕ → ℕ → Option ℕ → Type 0
  CutAtOk s k b (Some p) = SplitOk s k p
  CutAtOk s k b None = SpillAtOk s k b

  abbrev pub CutOk : State → ℕ → Pos → Type 0
  CutOk s k Blocked = Unit
  CutOk s k (At b) = is_point b (points_of g (piece s k)) ≡ false → CutAtOk s k b (partial_split g (piece s k) b)
  CutOk s k Never = Unit

  -- beside spill_holder and take_over
  abbrev pub HolderOk : State → ℕ → Option ℕ → Type 0
  HolderOk s S None = Unit
  HolderOk s S (Some h) = SpillAtOk s h S

  abbrev pub TakeOverOk : State → ℕ → ℕ → Type 0
  TakeOverOk s k r =
      CutOk (take_register s k r) k (first_start (piece s k).start (piece s k).end (fragments_of g r))
      × Good (λ t. HolderOk t (piece s k).start (holder s r)) (cut_before g (take_register s k r) k (first_start (piece s k).start (piece s k).end (fragments_of g r)))

  -- beside weigh, blocked_by and allocate_blocked
  abbrev pub WeighOk : State → ℕ → ℕ → Choice → Type 0
  WeighOk s k f None = UntilOk s k f
  WeighOk s k f (Some e) = (below (At f) e.pos ≡ true → TakeOverOk s k e.register) × (below (At f) e.pos ≡ false → UntilOk s k f)

  abbrev pub BlockedByOk : State → ℕ → Option ℕ → Type 0
  BlockedByOk s k None = SpillOk s k
  BlockedByOk s k (Some f) = only_scratch (class_of g (piece s k)) ≡ false → WeighOk s k f (furthest_of (class_of g (piece s k)) (next_use_pos g s (piece s k)))

  abbrev pub BlockedOk : State → ℕ → Type 0
  BlockedOk s k = BlockedByOk s k (next_use (piece s k).start (points_of g (piece s k)))

  -- beside take_until, try_at, try_take and allocate
  abbrev pub TakeUntilOk : State → ℕ → Option ℕ → Type 0
  TakeUntilOk s k (Some p) = SplitOk s k p
  TakeUntilOk s k None = BlockedOk s k

  abbrev pub TryAtOk : State → ℕ → Pos → Type 0
  TryAtOk s k Blocked = BlockedOk s k
  TryAtOk s k (At a) = ltb (piece s k).end a ≡ false → TakeUntilOk s k (partial_split g (piece s k) a)
  TryAtOk s k Never = Unit

  abbrev pub TryTakeOk : State → ℕ → Choice → Type 0
  TryTakeOk s k None = BlockedOk s k
  TryTakeOk s k (Some e) = TryAtOk s k e.pos

  abbrev pub AllocateOk : State → ℕ → Type 0
  AllocateOk s k = TryTakeOk s k (furthest_of (class_of g (piece s k)) (free_until g s (piece s k)))

  -- beside keep_or_spill, first_safepoint and handle_safepoints
  abbrev pub KeepOk : State → ℕ → ℕ → Option ℕ → Type 0
  KeepOk s k x (Some u) = u ≢ def_point x → SpillAtOk s k (use_point x)
  KeepOk s k x None = IfAnyOk s k (next_use (def_point x) (points_of g (piece s k))) × Good (λ t. SpillOk t k) (split_if_any g s k (next_use (def_point x) (points_of g (piece s k))))

  abbrev pub FirstOk : State → ℕ → List ℕ → Type 0
  FirstOk s k [] = Unit
  FirstOk s k (x ∷ xs) = KeepOk s k x (last_use (def_point x) (points_of g (piece s k)))

  abbrev pub SafepointOk : State → ℕ → Type 0
  SafepointOk s k = in_register (piece s k).place && (interval_of g (piece s k)).reference ≡ true → FirstOk s k (safepoints_of g (piece s k))

  -- beside step
  abbrev pub StepOk : State → ℕ → Type 0
  StepOk s k = AllocateOk (drop_ended s (piece s k).start) k × Good (λ t. SafepointOk t k) (allocate g (drop_ended s (piece s k).start) k)
