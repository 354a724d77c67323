-- What is weighed in the work area is what the rules weigh.
-- Assumes nothing.
use Rattle.rules.specs.declared.RegPos.{RegPos}
use Rattle.std.specs.Prelude.{None, Some, Err}
use Prim.Native.Nat.{ℕ, ◌+◌, ◌≤◌, ◌<◌}
use mathlib.Core.Path.{◌≡◌, refl, sym, ◌∙◌}
use mathlib.Core.Bool.{Bool, true, false}
use mathlib.Core.List.{List}
use native.Mathlib.Omega.{arith}
use native.Mathlib.Numerals.{add-one}
use lib.ListN.{length, drop, drop_of_length-le}
use lib.Seq.{drop-cons}
use borrow.Author.Tests.{eq-eqb, ne_eqb}
use Rattle.words.specs.Choose.{choose}
use Rattle.rules.specs.declared.Refusal.TheVariants.{OutOfRegisters}
use Rattle.rules.specs.Steps.{Choice}
use Rattle.rules.specs.declared.Mode.{Mode}
use Rattle.rules.specs.declared.Piece.{Piece}
use Rattle.rules.specs.declared.Place.TheVariants.{Register}
use Rattle.rules.specs.declared.Pos.{Pos}
use Rattle.rules.specs.declared.Pos.TheVariants.{At}
use Rattle.rules.specs.declared.Strategy.TheVariants.{From}
use Rattle.rules.specs.contracts.PosPartialOrd.TheImpl.{partial_cmp-value}
use Rattle.rules.specs.contracts.PlacePartialEq.TheImpl.{eq-value}
use Rattle.rules.proofs.Places.{same_register}
use Rattle.rules.proofs.Positions.{less_below}
use Rattle.std.specs.Ordering.{partial_lt}
use Rattle.rules.specs.State.{piece}
use Rattle.rules.specs.Steps.{holder_in, holder, spill_until}
use Rattle.store.specs.declared.Counts.{Counts}
use Rattle.store.specs.StateOf.{state_of, Ready, Got, GotActive}
use Rattle.store.proofs.StateLaws.{active_are}
use Rattle.choice.specs.Row.{pos_in}
use Rattle.split.specs.Turns.{Turn}
use Rattle.split.specs.Turns.{cutting, outcome_of, HeldOf, Does, off, split_then_spill}
use Rattle.split.proofs.NarrowLaws.{until_any}
use Rattle.steps.specs.Stepping.{placing, HolderOf, take_over_at, weigh_by, Did}
use Rattle.steps.proofs.TakingLaws.{did}

-- ---- the holder of a register: a walk over the active records
module _ (cap : ℕ) (ws : List ℕ) (c : Counts) (r : ℕ) where
  -- what is left of the walk
  pub record Seeking (i : ℕ) : Type 0 where
    pub upto : i ≤ c.active
    pub rest : holder_in (state_of cap ws c) r (drop i (state_of cap ws c).active) ≡ holder (state_of cap ws c) r

  module _ (i j : ℕ) (q : Piece) (t : Bool) (ready : Ready cap ws c) (s : Seeking i) (l : i < c.active) (a : GotActive cap ws c i j) (g : Got cap ws c j q) (e : t ≡ eq-value.it q.place (Register r)) where
    turn : holder_in (state_of cap ws c) r (drop i (state_of cap ws c).active) ≡ choose t (Some j) (holder_in (state_of cap ws c) r (drop (i + 1) (state_of cap ws c).active))
    unfolding holder_in
    turn =
        let long : i < length (state_of cap ws c).active = omega (arith, active_are cap ws c ready) in
        rw (drop-cons (state_of cap ws c).active i 0 long, ← a.is, ← g.is, ← same_register q.place r, ← e, add-one i)

    pub seeking_more : t ≡ false → Seeking (i + 1)
    seeking_more f = record { upto = omega arith; rest = sym (turn ∙ rw f) ∙ s.rest }

    pub seeking_found : t ≡ true → HolderOf cap ws c r (Some j)
    seeking_found f =
        record {
          is = sym (rw f at turn) ∙ s.rest;
          inside = λ k d. let same : j ≡ k = cc in rw same at a.inside;
        }

  pub seeking_ends : (i : ℕ) → Ready cap ws c → Seeking i → c.active ≤ i → HolderOf cap ws c r None
  unfolding holder_in
  seeking_ends i ready s l =
      let none : length (state_of cap ws c).active ≤ i = omega (arith, active_are cap ws c ready) in
      record { is = rw (drop_of_length-le (state_of cap ws c).active none) at s.rest; inside = λ j e. let z : ◌≡◌ {A = ℕ} 0 1 = cc in absurd (omega arith) }

module _ (cap : ℕ) (is ms ss : List ℕ) where
  -- ---- own spill
  module _ (ws : List ℕ) (c : Counts) (k f : ℕ) (q : Piece) where
    -- 12
    pub out_of_registers : HeldOf cap is ms ss ws c k → Got cap ws c k q → f ≡ q.start → Does cap ms ss ws ws c (Err (OutOfRegisters k)) (spill_until (cutting From is ms ss cap) (state_of cap ws c) k f)
    unfolding outcome_of spill_until
    out_of_registers h g e = record { meets = sym (rw (eq-eqb f (piece (state_of cap ws c) k).start (rw (← g.is) e))); turned = off _; long = refl }

    pub until_first : (ws' : List ℕ) (r : Turn) → Got cap ws c k q → (f ≡ q.start → ⊥) → Does cap ms ss ws ws' c r (split_then_spill (cutting From is ms ss cap) (state_of cap ws c) k f)
        → Does cap ms ss ws ws' c r (spill_until (cutting From is ms ss cap) (state_of cap ws c) k f)
    unfolding spill_until
    until_first ws' r g n d = record { meets = rw (ne_eqb f (piece (state_of cap ws c) k).start (rw (← g.is) n)) d.meets; turned = d.turned; long = d.long }

  module _ (m : Mode) (ws : List ℕ) (c : Counts) (k : ℕ) where
    -- ---- the weighing
    module _ (ws' : List ℕ) (f : ℕ) (B : List Pos) (x : Choice) (z : Turn) where
      pub all_blocked : x ≡ None → Does cap ms ss ws ws' c z (spill_until (cutting From is ms ss cap) (state_of cap ws c) k f)
          → Did cap ms ss ws ws' c z (weigh_by (placing m is ms ss cap) (state_of cap ws c) k f (pos_in B) x)
      unfolding weigh_by
      all_blocked e d = rw (e, until_any (placing m is ms ss cap) (state_of cap ws c) k f) (did cap ms ss ws ws' c z _ d)

      module _ (y : RegPos) (t : Bool) (e : x ≡ Some y) (i : t ≡ partial_lt partial_cmp-value.it (At f) y.pos) where
        pub weighed_own : t ≡ false → Does cap ms ss ws ws' c z (spill_until (cutting From is ms ss cap) (state_of cap ws c) k f)
            → Did cap ms ss ws ws' c z (weigh_by (placing m is ms ss cap) (state_of cap ws c) k f (pos_in B) x)
        unfolding weigh_by
        weighed_own o d = rw (e, ← less_below (At f) y.pos, ← i, o, until_any (placing m is ms ss cap) (state_of cap ws c) k f) (did cap ms ss ws ws' c z _ d)

        pub weighed_steal : (b : Pos) → t ≡ true → b ≡ pos_in B y.register → Did cap ms ss ws ws' c z (take_over_at (placing m is ms ss cap) (state_of cap ws c) k y.register b (holder (state_of cap ws c) y.register))
            → Did cap ms ss ws ws' c z (weigh_by (placing m is ms ss cap) (state_of cap ws c) k f (pos_in B) x)
        unfolding weigh_by
        weighed_steal b o w d = rw (e, ← less_below (At f) y.pos, ← i, o, ← w) d
