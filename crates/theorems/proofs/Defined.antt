-- Nothing is ill-defined: every state at the head of the loop has its numbers within bounds.
-- Assumes accepted tables.
use Prim.Native.Nat.{ℕ, ◌≤◌, ◌<◌}
use native.Mathlib.Omega.{arith}
use lib.ListN.{length}
use Rattle.words.specs.Packed.{interval_count}
use Rattle.rules.specs.Accepted.{Accepted}
use Rattle.rules.specs.State.{Given, State, record_of_key}
use Rattle.theorems.specs.Invariant.{NoOne, at, Inv}
use Rattle.theorems.specs.Reach.{Reached}
use Rattle.theorems.specs.Defined.{InBounds, Defined}
use Rattle.theorems.proofs.FragmentLaws.{in_table}
use Rattle.theorems.proofs.Slots.{homes_most, slot_rounds}
use Rattle.theorems.proofs.Loop.{pop_start, reached_inv}

module _ (g : Given) (ok : Accepted g.tables) where
  pub total_most : (l : ℕ) (s : State) → Inv g l NoOne s → s.total ≤ 32768
  total_most l s i = omega (arith, i.slots.few, homes_most s.homes, i.slots.long, ok.limits.intervals)

  pub in_bounds : (l : ℕ) (s : State) → Inv g l NoOne s → (k : ℕ) → k < length s.pieces → InBounds g (at s.pieces k)
  in_bounds l s i k h =
      let q = i.core.shape k h in
      let v = ok.intervals (at s.pieces k).interval q.named in
      let held = i.held k h (λ y. y) in
      record {
        interval = q.named;
        ordered = q.fits;
        point = omega (arith, q.stops, v.inside);
        width = omega (arith, q.stops, v.inside, ok.limits.instructions);
        mentions = omega (arith, q.ments.high, v.mentions);
        safepoints = omega (arith, q.safes.high, v.safepoints);
        register = λ r e. in_table g.tables ok (at s.pieces k).interval r q.named (rw e at held).usable;
        slot = λ t e. let d = rw e at held in omega (arith, total_most l s i, i.slots.under _ t d.1, (slot_rounds g.tables 0 (at s.pieces k).interval).some);
      }

  pub inv_defined : (l : ℕ) (s : State) → g.capacity ≤ 16384 → Inv g l NoOne s → Defined g l s
  inv_defined l s small i =
      record {
        least = i.core.all;
        most = i.core.room;
        bounds = in_bounds l s i;
        once = i.ordered;
        queued = i.queued;
        ahead = λ x m. let q = i.queued x m in let b = pop_start g ok small l s x i m in let h = rw q.free at (i.held (record_of_key x) q.here (λ y. y)) in omega (arith, h.0);
        homes = i.slots.long;
        home = i.slots.under;
        total = total_most l s i;
      }

  pub reached_defined : (l : ℕ) (s : State) → g.capacity ≤ 16384 → interval_count g.tables.intervals ≤ g.capacity → Reached g l s → Defined g l s
  reached_defined l s small room r = inv_defined l s small (reached_inv g ok small room l s r)
