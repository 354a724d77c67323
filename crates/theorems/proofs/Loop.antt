-- The run: it begins with the invariant, every turn keeps it, and nothing is queued behind the last start popped.
-- Assumes accepted tables.
use Rattle.std.specs.Prelude.{None, Some}
use Prim.Native.Nat.{ℕ, zero, suc, ◌/◌, ◌≤◌, ◌<◌}
use mathlib.Core.Path.{◌≡◌, refl, ap, ◌∙◌}
use mathlib.Core.Logic.{inl, inr, ⊎_elim}
use mathlib.Core.List.{List, [], ◌∷◌, Memᴰ}
use native.Mathlib.Omega.{arith}
use native.Mathlib.Decide.{ℕ_discrete}
use lib.ListN.{length, get_or, replicate, length-replicate}
use Rattle.words.specs.Packed.{interval_count}
use Rattle.words.proofs.Rows.{length_tab, get_d_tab}
use Rattle.rules.specs.declared.Piece.{Piece}
use Rattle.rules.specs.Tables.{Tables}
use Rattle.rules.specs.Accepted.{Accepted}
use Rattle.rules.specs.State.{Given, State, go_on, with_queue, no_piece, record_of_key, enqueue}
use Rattle.rules.specs.Steps.{step}
use Rattle.rules.specs.Run.{whole_interval, unqueued, enqueue_all, begin, pop, run}
use Rattle.theorems.specs.Invariant.{Good, NoOne, at, spilled_homes, Shape, Inv, first_point, last_point}
use Rattle.theorems.specs.Reach.{Reached, begins, pops}
use Rattle.theorems.specs.Proper.{StepOk}
use Rattle.theorems.proofs.TableLaws.{points_at}
use Rattle.theorems.proofs.Changes.{Or, inv_enqueue, inv_pop}
use Rattle.theorems.proofs.Spill.{good_on}
use Rattle.theorems.proofs.Steps.{step_keeps, step_ok}

no_home : (n v t : ℕ) → get_or (replicate n None) v None ≡ Some t → ⊥
no_home zero v t e = let q : ◌≡◌ {A = ℕ} 0 1 = cc in omega arith
no_home (suc n) zero t e = let q : ◌≡◌ {A = ℕ} 0 1 = cc in omega arith
no_home (suc n) (suc v) t e = no_home n v t e

no_homes : (n : ℕ) → spilled_homes (replicate n None) ≡ 0
unfolding spilled_homes
no_homes zero = refl
no_homes (suc n) = no_homes n

-- the same records are left out
inv_same : (g : Given) (l : ℕ) (X Y : ℕ → Type 0) (s : State) → ((m : ℕ) → X m → Y m) → ((m : ℕ) → Y m → X m) → Inv g l X s → Inv g l Y s
inv_same g l X Y s f b i =
    record {
      core = i.core;
      held = λ k a x. i.held k a (λ y. x (f k y));
      alone = λ j a x k c y. i.alone j a (λ z. x (f j z)) k c (λ z. y (f k z));
      ordered = i.ordered;
      queued = i.queued;
      waiting = λ x m y. i.waiting x m (b (record_of_key x) y);
      slots = i.slots;
      used = i.used;
    }

-- only what is no record is left out
inv_all : (g : Given) (l n : ℕ) (s : State) → length s.pieces ≤ n → Inv g l (λ m. n ≤ m) s → Inv g l NoOne s
inv_all g l n s h i =
    record {
      core = i.core;
      held = λ k a x. i.held k a (λ y. omega arith);
      alone = λ j a x k c y. i.alone j a (λ z. omega arith) k c (λ z. omega arith);
      ordered = i.ordered;
      queued = i.queued;
      waiting = λ x m y. y;
      slots = i.slots;
      used = i.used;
    }

module _ (g : Given) (ok : Accepted g.tables) (small : g.capacity ≤ 16384) where
  abbrev T : Tables
  T = g.tables

  abbrev is : List ℕ
  is = g.tables.intervals

  abbrev N : ℕ
  N = interval_count g.tables.intervals

  -- ---- the beginning
  shape_whole : (v : ℕ) → v < N → Shape T (whole_interval is v)
  shape_whole v h =
      let o = ok.mentions v h in
      let p = ok.safepoints v h in
      record {
        named = h;
        begins = omega arith;
        fits = (ok.intervals v h).ordered;
        stops = omega arith;
        ments = record { low = omega arith; mid = omega arith; high = omega arith; before = λ i a b. absurd (omega arith); starts = λ i a b. (o.inside i (a, b) (first_point T i) (points_at T ok v h i (a, b)).first).0; ends = λ i a b. (o.inside i (a, b) (last_point T i) (points_at T ok v h i (a, b)).last).1; after = λ i a b. absurd (omega arith) };
        safes = record { low = omega arith; mid = omega arith; high = omega arith; before = λ i a b. absurd (omega arith); starts = λ i a b. (p.inside i (a, b)).0; ends = λ i a b. (p.inside i (a, b)).1; after = λ i a b. absurd (omega arith) };
      }

  long : length (unqueued is).pieces ≡ N
  long = length_tab N (whole_interval is)

  whole : (k : ℕ) → k < N → at (unqueued is).pieces k ≡ whole_interval is k
  whole k h = get_d_tab N k (whole_interval is) no_piece h

  unqueued_inv : N ≤ g.capacity → Inv g 0 (λ m. 0 ≤ m) (unqueued is)
  unqueued_inv room =
      record {
        core =
            record {
              room = omega (arith, long);
              all = omega (arith, long);
              firsts = λ k h. rw (whole k h) (refl, refl);
              shape = λ k h. rw (whole k (omega (arith, long))) (shape_whole k (omega (arith, long)));
              parts =
                  record {
                    apart = λ j a k b x. rw (whole j (omega (arith, long)), whole k (omega (arith, long))) (λ e u v. e);
                    cover = λ v x h a b. let o = whole v h in (v, omega (arith, long), rw o refl, rw o a, rw o b);
                  };
            };
        held = λ k h x. absurd (x (omega arith));
        alone = λ j h x. absurd (x (omega arith));
        ordered = tt;
        queued = λ x m. absurd (mathlib.Core.List.Memᴰ.not-nil m);
        waiting = λ x m y. mathlib.Core.List.Memᴰ.not-nil m;
        slots =
            record {
              long = length-replicate N None;
              multiple = λ v t e. absurd (no_home N v t e);
              under = λ v t e. absurd (no_home N v t e);
              apart = λ u v x y d e f. absurd (no_home N u x e);
              top = inl refl;
              few = omega arith;
            };
        used = λ v t e. absurd (no_home N v t e);
      }

  -- n records are queued, the others are left out
  queued_inv : N ≤ g.capacity → (n : ℕ) → n ≤ N → Inv g 0 (λ m. n ≤ m) (enqueue_all n (unqueued is)) × ((enqueue_all n (unqueued is)).pieces ≡ (unqueued is).pieces)
  unfolding enqueue_all enqueue
  queued_inv room zero h = (unqueued_inv room, refl)
  queued_inv room (suc n) h =
      let ih = queued_inv room n (omega arith) in
      let e : at (enqueue_all n (unqueued is)).pieces n ≡ whole_interval is n = ap (λ (ps : List Piece). at ps n) ih.1 ∙ whole n (omega arith) in (
        inv_enqueue g ok 0 (λ m. suc n ≤ m) (enqueue_all n (unqueued is)) n
            (inv_same g 0 (λ m. n ≤ m) (Or (λ m. suc n ≤ m) n) (enqueue_all n (unqueued is)) (λ m a. elim (ℕ_discrete m n) [ yes d ↦ inr d | no d ↦ inl (omega arith) ]) (λ m o. ⊎_elim (λ (a : suc n ≤ m). omega arith) (λ (a : m ≡ n). omega arith) o) ih.0)
            (λ a. omega arith) (omega (arith, ap length ih.1, long)) (omega arith) (rw e refl) (omega arith),
        ih.1,
      )

  pub begin_inv : N ≤ g.capacity → Inv g 0 NoOne (begin is)
  unfolding begin
  begin_inv room = let r = queued_inv room N (omega arith) in inv_all g 0 N (begin is) (omega (arith, ap length r.1, long)) r.0

  -- ---- one turn: what is popped has no place yet, and its start is the key's
  pub pop_start : (l : ℕ) (s : State) (x : ℕ) → Inv g l NoOne s → Memᴰ x s.queue → (at s.pieces (record_of_key x)).start ≡ x / 16384
  pop_start l s x i m = let q = i.queued x m in omega (arith, q.key)

  pub turn_keeps : (l : ℕ) (s : State) (x : ℕ) (xs : List ℕ) → Inv g l NoOne s → s.queue ≡ x ∷ xs → Good (Inv g (x / 16384) NoOne) (step g (with_queue xs s) (record_of_key x))
  turn_keeps l s x xs i e =
      let m : Memᴰ x s.queue = rw e (mathlib.Core.List.Memᴰ.head refl) in
      let q = i.queued x m in
      let b = pop_start l s x i m in
      step_keeps g ok small (x / 16384) (record_of_key x) (with_queue xs s) (rw b at (inv_pop g ok l s NoOne x xs small i e)) q.here q.free b

  -- each split and each spill of the turn is proper
  pub turn_ok : (l : ℕ) (s : State) (x : ℕ) (xs : List ℕ) → Inv g l NoOne s → s.queue ≡ x ∷ xs → StepOk g (with_queue xs s) (record_of_key x)
  turn_ok l s x xs i e =
      let m : Memᴰ x s.queue = rw e (mathlib.Core.List.Memᴰ.head refl) in
      let q = i.queued x m in
      let b = pop_start l s x i m in
      step_ok g ok small (x / 16384) (record_of_key x) (with_queue xs s) (rw b at (inv_pop g ok l s NoOne x xs small i e)) q.here q.free b

  -- every state at the loop's head has it
  pub reached_inv : N ≤ g.capacity → (l : ℕ) (s : State) → Reached g l s → Inv g l NoOne s
  reached_inv room l s begins = begin_inv room
  reached_inv room l s (pops l' s' x xs t r e d) = rw d at (turn_keeps l' s' x xs (reached_inv room l' s' r) e)

  -- and so has the last
  pub run_keeps : (fuel l : ℕ) (s : State) → Inv g l NoOne s → Good (λ t. (m : ℕ) × Inv g m NoOne t) (run fuel g s)
  unfolding run pop
  run_keeps zero l s i = (l, i)
  run_keeps (suc fuel) l s i = go s.queue refl (λ m u j. run_keeps fuel m u j)
    where
      go : (q : List ℕ) → s.queue ≡ q → ((m : ℕ) (u : State) → Inv g m NoOne u → Good (λ t. (m : ℕ) × Inv g m NoOne t) (run fuel g u)) → Good (λ t. (m : ℕ) × Inv g m NoOne t) (pop s q (λ t k. go_on (step g t k) (λ u. run fuel g u)))
      go [] e ih = (l, i)
      go (x ∷ xs) e ih = good_on (Inv g (x / 16384) NoOne) (λ t. (m : ℕ) × Inv g m NoOne t) (step g (with_queue xs s) (record_of_key x)) (λ u. run fuel g u) (turn_keeps l s x xs i e) (λ u j. ih (x / 16384) u j)

  -- nothing that is queued starts before the last start popped: cursors that only move on are enough
  pub queue_ahead : N ≤ g.capacity → (l : ℕ) (s : State) → Reached g l s → (x : ℕ) → Memᴰ x s.queue → l ≤ x / 16384
  queue_ahead room l s r x m =
      let i = reached_inv room l s r in
      let q = i.queued x m in
      let b = pop_start l s x i m in
      let h = rw q.free at (i.held (record_of_key x) q.here (λ y. y)) in
      omega (arith, h.0)
