-- Every queued record is popped, once: the queue loses a key only by its pop, and only new records are queued.
-- Assumes accepted tables where it says so.
use Prim.Native.Nat.{ℕ, zero, suc, ◌/◌, ◌≤◌, ◌<◌}
use mathlib.Core.Path.{◌≡◌, refl}
use mathlib.Core.Logic.{◌≢◌, ◌⊎◌, inl, inr, ⊎_elim}
use mathlib.Core.List.Memᴰ
use mathlib.Core.List.{List, [], ◌∷◌, Memᴰ}
use native.Mathlib.Omega.{arith}
use lib.ListN.{length, length-set, length-append}
use Rattle.rules.specs.Accepted.{Accepted}
use Rattle.rules.specs.State.{Given, State, Outcome, goes, go_on, with_queue, put, record_of_key, enqueue}
use Rattle.rules.specs.Split.{split_pieces}
use Rattle.rules.specs.Steps.{step}
use Rattle.rules.specs.Run.{pop, run}
use Rattle.rules.proofs.Keeps.{All, on, off, Closed, step_keeps}
use Rattle.theorems.specs.Invariant.{Good, NoOne, Inv}
use Rattle.theorems.specs.Reach.{Passes, here, later, pops_from, onwards, pops_of, Once, PoppedOnce}
use Rattle.theorems.proofs.ListLaws.{insert_old, insert_is}
use Rattle.theorems.proofs.Changes.{Among, inv_pop}
use Rattle.theorems.proofs.Loop.{turn_keeps}

-- since there were n records, and the queue q: it holds q still, and besides only new records
record Grown (n : ℕ) (q : List ℕ) (s : State) : Type 0 where
  pub grows : n ≤ length s.pieces
  pub keeps : Among q s.queue
  pub only : (y : ℕ) → Memᴰ y s.queue → Memᴰ y q ⊎ (n ≤ record_of_key y)

grown_closed : (g : Given) → g.capacity ≤ 16384 → (n : ℕ) (q : List ℕ) → Closed g (Grown n q)
unfolding put split_pieces enqueue
grown_closed g small n q =
    record {
      puts = λ s k w h. record { grows = simp length-set h.grows; keeps = h.keeps; only = h.only };
      activates = λ s js h. record { grows = h.grows; keeps = h.keeps; only = h.only };
      homes = λ s hs m h. record { grows = h.grows; keeps = h.keeps; only = h.only };
      splits = λ s k p l h. record { grows = simp (length-append, length-set) (omega (arith, h.grows)); keeps = h.keeps; only = h.only };
      queues = λ s k p l h. record {
        grows = simp (length-append, length-set) (omega (arith, h.grows));
        keeps = λ y m. insert_old _ s.queue (h.keeps y m);
        only = λ y m. ⊎_elim (λ (e : y ≡ _). inr (omega (arith, h.grows))) (λ (o : Memᴰ y s.queue). h.only y o) (insert_is _ s.queue m);
      };
    }

module _ (g : Given) (small : g.capacity ≤ 16384) where
  -- one turn
  turn_grown : (s : State) (x : ℕ) (xs : List ℕ) → All (Grown (length s.pieces) xs) (step g (with_queue xs s) (record_of_key x))
  turn_grown s x xs = step_keeps g (Grown (length s.pieces) xs) (grown_closed g small (length s.pieces) xs) (with_queue xs s) (record_of_key x) (record { grows = omega arith; keeps = λ y m. m; only = λ y m. inl m })

  -- a record that is not queued is never popped again
  absent : (k fuel : ℕ) (s : State) → k < length s.pieces → ((y : ℕ) → Memᴰ y s.queue → record_of_key y ≢ k) → (y : ℕ) → Memᴰ y (pops_of fuel g s) → record_of_key y ≢ k
  unfolding pops_of
  absent k zero s h n y m = absurd (Memᴰ.not-nil m)
  absent k (suc fuel) s h n y m = go s.queue refl m (λ t a b c. absent k fuel t a b y c)
    where
      go : (q : List ℕ) → s.queue ≡ q → Memᴰ y (pops_from q (λ x xs. onwards (step g (with_queue xs s) (record_of_key x)) (λ t. pops_of fuel g t)))
          → ((t : State) → k < length t.pieces → ((z : ℕ) → Memᴰ z t.queue → record_of_key z ≢ k) → Memᴰ y (pops_of fuel g t) → record_of_key y ≢ k) → record_of_key y ≢ k
      go [] e m ih = absurd (Memᴰ.not-nil m)
      go (x ∷ xs) e (Memᴰ.head d) ih = rw d (n x (rw e (Memᴰ.head refl)))
      go (x ∷ xs) e (Memᴰ.tail o) ih = by (step g (with_queue xs s) (record_of_key x)) (turn_grown s x xs) o
        where
          by : (z : Outcome) → All (Grown (length s.pieces) xs) z → Memᴰ y (onwards z (λ t. pops_of fuel g t)) → record_of_key y ≢ k
          by z (on t w) o = ih t (omega (arith, w.grows)) (λ v p. ⊎_elim (λ (a : Memᴰ v xs). n v (rw e (Memᴰ.tail a))) (λ (a : length s.pieces ≤ record_of_key v) d. omega arith) (w.only v p)) o
          by z (off a d) o = absurd (Memᴰ.not-nil o)

  -- what is queued is popped before the run is done
  pub all_popped : (fuel : ℕ) (s t : State) → run fuel g s ≡ goes t → t.queue ≡ [] → (y : ℕ) → Memᴰ y s.queue → Memᴰ y (pops_of fuel g s)
  unfolding pops_of run pop
  all_popped zero s t e d y m = let z : s ≡ t = cc in absurd (Memᴰ.not-nil (rw (z, d) at m))
  all_popped (suc fuel) s t e d y m = go s.queue refl e m (λ u a b. all_popped fuel u t a d y b)
    where
      go : (q : List ℕ) → s.queue ≡ q → pop s q (λ u k. go_on (step g u k) (λ v. run fuel g v)) ≡ goes t → Memᴰ y q → ((u : State) → run fuel g u ≡ goes t → Memᴰ y u.queue → Memᴰ y (pops_of fuel g u))
          → Memᴰ y (pops_from q (λ x xs. onwards (step g (with_queue xs s) (record_of_key x)) (λ u. pops_of fuel g u)))
      go [] o e m ih = absurd (Memᴰ.not-nil m)
      go (x ∷ xs) o e (Memᴰ.head a) ih = Memᴰ.head a
      go (x ∷ xs) o e (Memᴰ.tail a) ih = Memᴰ.tail (by (step g (with_queue xs s) (record_of_key x)) (turn_grown s x xs) e)
        where
          by : (z : Outcome) → All (Grown (length s.pieces) xs) z → go_on z (λ v. run fuel g v) ≡ goes t → Memᴰ y (onwards z (λ u. pops_of fuel g u))
          by z (on u w) b = ih u b (w.keeps y a)
          by z (off c f) b = let q : ◌≡◌ {A = ℕ} 0 1 = cc in absurd (omega arith)

  -- also what is queued on the way
  pub passed_popped : (fuel left : ℕ) (s u t : State) → Passes g fuel s left u → run left g u ≡ goes t → t.queue ≡ [] → (y : ℕ) → Memᴰ y u.queue → Memᴰ y (pops_of fuel g s)
  unfolding pops_of
  passed_popped fuel left s u t (here f v) e d y m = all_popped left u t e d y m
  passed_popped fuel left s u t (later f v x xs w l z a b p) e d y m = rw (a, b) (Memᴰ.tail (passed_popped f left w u t p e d y m))

  -- a run that is done is done from each state on its way
  passes_run : (fuel left : ℕ) (s u t : State) → Passes g fuel s left u → run fuel g s ≡ goes t → run left g u ≡ goes t
  unfolding run pop
  passes_run fuel left s u t (here f v) e = e
  passes_run fuel left s u t (later f v x xs w l z a b p) e = passes_run f left w u t p (rw (a, b) at e)

  -- no record is popped twice
  pub popped_once : Accepted g.tables → (fuel l : ℕ) (s : State) → Inv g l NoOne s → Once (pops_of fuel g s)
  unfolding pops_of
  popped_once ok zero l s i = tt
  popped_once ok (suc fuel) l s i = go s.queue refl (λ m t j. popped_once ok fuel m t j)
    where
      go : (q : List ℕ) → s.queue ≡ q → ((m : ℕ) (t : State) → Inv g m NoOne t → Once (pops_of fuel g t)) → Once (pops_from q (λ x xs. onwards (step g (with_queue xs s) (record_of_key x)) (λ t. pops_of fuel g t)))
      go [] e ih = tt
      go (x ∷ xs) e ih = by (step g (with_queue xs s) (record_of_key x)) (turn_grown s x xs) (turn_keeps g ok small l s x xs i e)
        where
          n : record_of_key x < length s.pieces
          n = (i.queued x (rw e (Memᴰ.head refl))).here

          by : (z : Outcome) → All (Grown (length s.pieces) xs) z → Good (Inv g (x / 16384) NoOne) z → Once (x ∷ onwards z (λ t. pops_of fuel g t))
          by z (on t w) j = (
            absent (record_of_key x) fuel t (omega (arith, w.grows, n)) (λ v p. ⊎_elim (λ (a : Memᴰ v xs) d. (inv_pop g ok l s NoOne x xs small i e).waiting v a (inr d)) (λ (a : length s.pieces ≤ record_of_key v) d. omega (arith, n)) (w.only v p)),
            ih (x / 16384) t j,
          )
          by z (off a d) j = (λ y m. absurd (Memᴰ.not-nil m), tt)

  pub done_popped : Accepted g.tables → (fuel l : ℕ) (s t : State) → Inv g l NoOne s → run fuel g s ≡ goes t → t.queue ≡ [] → PoppedOnce g fuel s
  done_popped ok fuel l s t i e d = record { once = popped_once ok fuel l s i; every = λ left u p y m. passed_popped fuel left s u t p (passes_run fuel left s u t p e) d y m }
