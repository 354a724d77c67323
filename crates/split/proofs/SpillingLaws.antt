-- A piece that is split and then spilled.
-- Assumes nothing.
use Rattle.std.specs.Prelude.{Ok, Err}
use Prim.Native.Nat.{ℕ}
use mathlib.Core.Path.{◌≡◌, sym, ap, ◌∙◌}
use mathlib.Core.List.{List, []}
use native.Mathlib.Omega.{arith}
use Rattle.rules.specs.declared.Refusal.{Refusal}
use Rattle.rules.specs.declared.Strategy.{Strategy}
use Rattle.rules.specs.declared.Strategy.TheVariants.{From}
use Rattle.rules.specs.State.{goes}
use Rattle.rules.specs.Slots.{spill}
use Rattle.rules.specs.Split.{split_and_queue}
use Rattle.store.specs.declared.Counts.{Counts}
use Rattle.store.specs.StateOf.{state_of}
use Rattle.store.proofs.StateLaws.{records_are}
use Rattle.split.specs.Turns.{Turn}
use Rattle.split.specs.Turns.{cutting, outcome_of, HeldOf, on, Does, Spilt}
use Rattle.split.proofs.FitLaws.{fit_spill}
use Rattle.split.proofs.SpillLaws.{spill_any}
use Rattle.split.specs.Turns.{split_then_spill}
use Rattle.split.proofs.NarrowLaws.{queue_any}
use Rattle.split.proofs.TurnLaws.{on_held, on_then, off_off}

module _ (cap : ℕ) (is ms ss : List ℕ) where
  -- a spill is a turn
  pub spilt_does : (ws ws' : List ℕ) (c d : Counts) (k : ℕ) (y : Strategy) → HeldOf cap is ms ss ws c k → Spilt cap is ws ws' c d k
      → Does cap ms ss ws ws' c (Ok d) (goes (spill (cutting y is ms ss cap) (state_of cap ws c) k))
  unfolding outcome_of
  spilt_does ws ws' c d k y h s =
      record {
        meets = ap goes (s.after.is ∙ sym (spill_any cap ms ss y is (state_of cap ws c) k));
        turned =
            on d
            (record {
              ready = s.after.ready;
              fit = rw s.after.is (fit_spill ms ss _ (state_of cap ws c) k (rw (records_are cap ws c h.ready) h.inside) h.fit);
              records = omega (arith, s.after.records);
              intervals = s.after.intervals;
              slack = omega (arith, s.after);
            });
        long = s.after.long;
      }

  module _ (ws ws₁ : List ℕ) (c : Counts) (k p : ℕ) (r : Turn) where
    -- split, then spilled
    pub then_spilt : (ws₂ : List ℕ) (d e : Counts) → HeldOf cap is ms ss ws c k → Does cap ms ss ws ws₁ c r (split_and_queue (cutting From [] ms ss cap) (state_of cap ws c) k p)
        → r ≡ Ok d → Spilt cap is ws₁ ws₂ d e k → Does cap ms ss ws ws₂ c (Ok e) (split_then_spill (cutting From is ms ss cap) (state_of cap ws c) k p)
    then_spilt ws₂ d e h t o s =
        rw (queue_any (cutting From is ms ss cap) (state_of cap ws c) k p)
        (on_then cap ms ss ws ws₁ c r ws₂ d (Ok e) _ _ t o (spilt_does ws₁ ws₂ d e k From (on_held cap ms ss ws ws₁ c r is k d _ h t o) s))

    -- or refused
    pub then_off : (a : Refusal) → Does cap ms ss ws ws₁ c r (split_and_queue (cutting From [] ms ss cap) (state_of cap ws c) k p) → r ≡ Err a
        → Does cap ms ss ws ws₁ c (Err a) (split_then_spill (cutting From is ms ss cap) (state_of cap ws c) k p)
    then_off a t o = rw (queue_any (cutting From is ms ss cap) (state_of cap ws c) k p) (off_off cap ms ss ws ws₁ c r a _ _ t o)
