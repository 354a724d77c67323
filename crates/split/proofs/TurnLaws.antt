-- A turn that is matched on: it goes on with its counts, or stops with its answer.
-- Assumes nothing.
use Rattle.std.specs.Prelude.{Ok, Err}
use Prim.Native.Nat.{ℕ}
use mathlib.Core.Path.{◌≡◌, sym, ◌∙◌}
use mathlib.Core.List.{List}
use native.Mathlib.Omega.{arith}
use Rattle.rules.specs.declared.Refusal.{Refusal}
use Rattle.rules.specs.State.{State, Outcome, goes, stops, go_on}
use Rattle.store.specs.declared.Counts.{Counts}
use Rattle.store.specs.StateOf.{state_of}
use Rattle.split.specs.Turns.{Turn}
use Rattle.split.specs.Turns.{outcome_of, HeldOf, Spilling, Went, Turned, on, off, Does}
use Rattle.split.proofs.SpillLaws.{further}

module _ (cap : ℕ) (ms ss ws ws' : List ℕ) (c : Counts) (r : Turn) where
  -- it goes on
  pub on_goes : (d : Counts) (o : Outcome) → Does cap ms ss ws ws' c r o → r ≡ Ok d → o ≡ goes (state_of cap ws' d)
  unfolding outcome_of
  on_goes d o h e = sym h.meets ∙ rw e

  pub on_went : (d : Counts) (o : Outcome) → Does cap ms ss ws ws' c r o → r ≡ Ok d → Went cap ms ss ws' c d
  on_went d o h e = go r h.turned e
    where
      go : (t : Turn) → Turned cap ms ss ws' c t → t ≡ Ok d → Went cap ms ss ws' c d
      go t (on x w) f = let same : x ≡ d = cc in rw same at w
      go t (off a) f = let z : ◌≡◌ {A = ℕ} 0 1 = cc in absurd (omega arith)

  -- it stops
  pub off_stops : (a : Refusal) (o : Outcome) → Does cap ms ss ws ws' c r o → r ≡ Err a → o ≡ stops a
  unfolding outcome_of
  off_stops a o h e = sym h.meets ∙ rw e

  -- what follows is not done
  pub off_off : (a : Refusal) (o : Outcome) (f : State → Outcome) → Does cap ms ss ws ws' c r o → r ≡ Err a → Does cap ms ss ws ws' c (Err a) (go_on o f)
  unfolding outcome_of
  off_off a o f h e = record { meets = rw (off_stops a o h e); turned = off a; long = h.long }

  -- record k is held after it
  pub on_held : (is : List ℕ) (k : ℕ) (d : Counts) (o : Outcome) → HeldOf cap is ms ss ws c k → Does cap ms ss ws ws' c r o → r ≡ Ok d → HeldOf cap is ms ss ws' d k
  on_held is k d o h t e =
      let w = on_went d o t e in
      record { ready = w.ready; fit = w.fit; inside = omega (arith, h.inside, w.records); rows = w.intervals ∙ h.rows }

  pub on_spilling : (is : List ℕ) (k : ℕ) (d : Counts) (o : Outcome) → HeldOf cap is ms ss ws c k → Does cap ms ss ws ws' c r o → r ≡ Ok d → Spilling cap is ws' d k
  on_spilling is k d o h t e = let w = on_held is k d o h t e in record { ready = w.ready; inside = w.inside; rows = w.rows }

  -- what is done next, from its counts
  pub on_then : (ws'' : List ℕ) (d : Counts) (u : Turn) (o : Outcome) (f : State → Outcome) → Does cap ms ss ws ws' c r o → r ≡ Ok d
      → Does cap ms ss ws' ws'' d u (f (state_of cap ws' d)) → Does cap ms ss ws ws'' c u (go_on o f)
  on_then ws'' d u o f h e b =
      let w = on_went d o h e in
      record { meets = rw (on_goes d o h e) b.meets; turned = further cap ms ss ws'' c d u w.records w.intervals w.slack b.turned; long = b.long ∙ h.long }
