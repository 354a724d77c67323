-- Step 5 in the work area is step 5 of `rules`, and leaves the area ready.
-- Assumes nothing.
use Rattle.std.specs.Prelude.{Option, None, Some, Ok}
use Prim.Native.Nat.{ℕ, ◌<◌}
use mathlib.Core.Path.{◌≡◌, refl, sym, ap, ◌∙◌}
use mathlib.Core.Bool.{Bool, true, false}
use mathlib.Core.List.{List, [], ◌∷◌, tail}
use native.Mathlib.Omega.{arith}
use native.Mathlib.Decide.{ℕ_discrete}
use lib.ListN.{get_or}
use lib.Dec.{eqb}
use borrow.Author.Tests.{eq-eqb, ne_eqb}
use Rattle.words.specs.Choose.{choose}
use Rattle.words.specs.Packed.{part}
use Rattle.words.specs.Points.{use_point, def_point}
use Rattle.rules.specs.declared.Piece.{Piece}
use Rattle.rules.specs.declared.Strategy.{Strategy}
use Rattle.rules.specs.declared.Strategy.TheVariants.{From}
use Rattle.rules.specs.State.{Given, State, Outcome, goes, go_on, piece, safepoints_of}
use Rattle.rules.specs.Slots.{spill}
use Rattle.rules.specs.Split.{split, split_and_queue, split_if_any, split_and_spill}
use Rattle.rules.specs.Steps.{keep_or_spill, first_safepoint, handle_safepoints}
use Rattle.rules.specs.Uses.{mention_points, next_use, last_use}
use Rattle.uses.specs.Runs.{Ascending}
use Rattle.uses.specs.Safepoints.{head_of}
use Rattle.uses.proofs.SafepointLaws.{first_missing, first_is, head_missing, head_is}
use Rattle.store.specs.declared.Counts.{Counts}
use Rattle.store.specs.StateOf.{state_of, Got}
use Rattle.split.specs.Turns.{Turn}
use Rattle.split.specs.Turns.{cutting, HeldOf, Does, Spilt, split_then_spill}
use Rattle.split.proofs.SplitLaws.{got_fits}
use Rattle.split.proofs.SpillLaws.{stays}
use Rattle.split.proofs.SpillingLaws.{spilt_does}
use Rattle.split.proofs.NarrowLaws.{narrow, and_narrow}
use Rattle.safepoints.specs.Safepoint.{looking, spill_to_next, at_safepoint, at_first}

-- a turn that meets an outcome meets the same outcome by another name
does_as : (cap : ℕ) (ms ss ws ws' : List ℕ) (c : Counts) (r : Turn) (o o' : Outcome) → o ≡ o' → Does cap ms ss ws ws' c r o → Does cap ms ss ws ws' c r o'
does_as cap ms ss ws ws' c r o o' e d = record { meets = d.meets ∙ e; turned = d.turned; long = d.long }

module _ (cap : ℕ) (is ms ss : List ℕ) where
  -- the strategy has no part in a spill up to the next use
  next_any : (y : Strategy) (s : State) (k : ℕ) (x : Option ℕ)
      → go_on (split_if_any (cutting From is ms ss cap) s k x) (λ t. goes (spill (cutting From is ms ss cap) t k))
      ≡ go_on (split_if_any (cutting y is ms ss cap) s k x) (λ t. goes (spill (cutting y is ms ss cap) t k))
  unfolding split_if_any split_and_queue split spill
  next_any y s k None = refl
  next_any y s k (Some n) = refl

  module _ (ws : List ℕ) (c : Counts) (k : ℕ) (q : Piece) where
    -- no use follows: the piece is spilled
    pub next_none : (ws' : List ℕ) (d : Counts) (p : ℕ) (x : Option ℕ) → HeldOf cap is ms ss ws c k → Got cap ws c k q
        → x ≡ next_use p (mention_points (part q.mentions ms)) → x ≡ None → Spilt cap is ws ws' c d k
        → Does cap ms ss ws ws' c (Ok d) (spill_to_next (cutting From is ms ss cap) (state_of cap ws c) k p)
    unfolding split_if_any
    next_none ws' d p x h g e n s =
        let e' : next_use p (mention_points (part q.mentions ms)) ≡ None = sym e ∙ n in
        does_as cap ms ss ws ws' c (Ok d) (goes (spill (cutting From is ms ss cap) (state_of cap ws c) k)) _ (rw (← g.is, e')) (spilt_does cap is ms ss ws ws' c d k From h s)

    -- a use follows: it is split there, and spilled
    pub next_some : (ws' : List ℕ) (p n : ℕ) (x : Option ℕ) (r : Turn) → Got cap ws c k q
        → x ≡ next_use p (mention_points (part q.mentions ms)) → x ≡ Some n → Does cap ms ss ws ws' c r (split_then_spill (cutting From is ms ss cap) (state_of cap ws c) k n)
        → Does cap ms ss ws ws' c r (spill_to_next (cutting From is ms ss cap) (state_of cap ws c) k p)
    unfolding split_if_any
    next_some ws' p n x r g e m d =
        let e' : next_use p (mention_points (part q.mentions ms)) ≡ Some n = sym e ∙ m in
        does_as cap ms ss ws ws' c r (split_then_spill (cutting From is ms ss cap) (state_of cap ws c) k n) _ (rw (← g.is, e')) d

    module _ (y : Strategy) (x def : ℕ) (z : Option ℕ) where
      -- no use at or before the safepoint
      pub at_none : (ws' : List ℕ) (r : Turn) → Got cap ws c k q → def ≡ def_point x → z ≡ last_use def (mention_points (part q.mentions ms)) → z ≡ None
          → Does cap ms ss ws ws' c r (spill_to_next (cutting From is ms ss cap) (state_of cap ws c) k def)
          → Does cap ms ss ws ws' c r (at_safepoint (cutting y is ms ss cap) (state_of cap ws c) k x)
      unfolding keep_or_spill
      at_none ws' r g f e n d =
          let e' : last_use (def_point x) (mention_points (part (piece (state_of cap ws c) k).mentions ms)) ≡ None = rw g.is at (sym (rw f at e) ∙ n) in
          does_as cap ms ss ws ws' c r (spill_to_next (cutting From is ms ss cap) (state_of cap ws c) k def) _ (next_any y (state_of cap ws c) k _ ∙ rw (f, e')) d

      -- the last use is the safepoint's definition: the piece is kept
      pub at_kept : (u : ℕ) → HeldOf cap is ms ss ws c k → Got cap ws c k q → def ≡ def_point x → z ≡ last_use def (mention_points (part q.mentions ms)) → z ≡ Some u
          → u ≡ def → Does cap ms ss ws ws c (Ok c) (at_safepoint (cutting y is ms ss cap) (state_of cap ws c) k x)
      unfolding keep_or_spill
      at_kept u h g f e m same =
          let e' : last_use (def_point x) (mention_points (part q.mentions ms)) ≡ Some u = sym (rw f at e) ∙ m in
          stays cap ms ss ws c k _ (record { ready = h.ready; fit = h.fit; inside = h.inside }) (rw (← g.is, e', eq-eqb u (def_point x) (same ∙ f)))

      -- another last use: split-and-spill at the safepoint
      pub at_spilt : (ws' : List ℕ) (u p : ℕ) (r : Turn) → Got cap ws c k q → def ≡ def_point x → z ≡ last_use def (mention_points (part q.mentions ms)) → z ≡ Some u
          → (u ≡ def → ⊥) → p ≡ use_point x → Does cap ms ss ws ws' c r (split_and_spill (cutting y is ms ss cap) (state_of cap ws c) k p)
          → Does cap ms ss ws ws' c r (at_safepoint (cutting y is ms ss cap) (state_of cap ws c) k x)
      unfolding keep_or_spill
      at_spilt ws' u p r g f e m other at d =
          let e' : last_use (def_point x) (mention_points (part q.mentions ms)) ≡ Some u = sym (rw f at e) ∙ m in
          does_as cap ms ss ws ws' c r (split_and_spill (cutting y is ms ss cap) (state_of cap ws c) k p) _ (rw (← g.is, e', ne_eqb u (def_point x) (λ i. other (i ∙ sym f)), at)) d

    module _ (y : Strategy) (z : Option ℕ) where
      -- there is no safepoint
      pub first_none : HeldOf cap is ms ss ws c k → Got cap ws c k q → z ≡ head_of (part q.safepoints ss) → z ≡ None
          → Does cap ms ss ws ws c (Ok c) (at_first (cutting y is ms ss cap) (state_of cap ws c) k)
      unfolding first_safepoint
      first_none h g e n =
          stays cap ms ss ws c k _ (record { ready = h.ready; fit = h.fit; inside = h.inside }) (rw (← g.is, head_missing (part q.safepoints ss) (sym e ∙ n)))

      -- there is one
      pub first_some : (ws' : List ℕ) (x : ℕ) (r : Turn) → Got cap ws c k q → z ≡ head_of (part q.safepoints ss) → z ≡ Some x
          → Does cap ms ss ws ws' c r (at_safepoint (cutting y is ms ss cap) (state_of cap ws c) k x) → Does cap ms ss ws ws' c r (at_first (cutting y is ms ss cap) (state_of cap ws c) k)
      unfolding first_safepoint
      first_some ws' x r g e n d =
          let e' : part (piece (state_of cap ws c) k).safepoints ss ≡ x ∷ tail (part (piece (state_of cap ws c) k).safepoints ss) = rw g.is at (head_is (part q.safepoints ss) x (sym e ∙ n)) in
          does_as cap ms ss ws ws' c r (at_safepoint (cutting y is ms ss cap) (state_of cap ws c) k x) _ (sym (ap (first_safepoint (cutting y is ms ss cap) (state_of cap ws c) k) e')) d

    -- the safepoints of the piece that was read can be looked at
    pub of_ascending : HeldOf cap is ms ss ws c k → Got cap ws c k q → Ascending q.safepoints ss
    of_ascending h g = (got_fits cap ms ss ws c k q (record { ready = h.ready; fit = h.fit; inside = h.inside }) g).safepoints

    -- .. and each is an instruction
    pub first_below : (z : Option ℕ) (x : ℕ) → HeldOf cap is ms ss ws c k → Got cap ws c k q → z ≡ head_of (part q.safepoints ss) → z ≡ Some x → x < 32768
    first_below z x h g e n = go (ℕ_discrete q.safepoints.count 0)
      where
        up : Ascending q.safepoints ss
        up = of_ascending h g

        go : Dec (q.safepoints.count ≡ 0) → x < 32768
        go (yes none) = let i : ◌≡◌ {A = ℕ} 0 1 = cc (first_missing q.safepoints ss none) in absurd (omega arith)
        go (no some) =
            let same : get_or ss q.safepoints.index 0 ≡ x = cc (first_is q.safepoints ss up some) in
            omega (arith, same, up.below q.safepoints.index (omega (arith, up.inside), omega arith))

module _ (cap : ℕ) (is ms ss ws : List ℕ) (c : Counts) (k : ℕ) (y : Strategy) (b : Bool) (e : b ≡ looking is (piece (state_of cap ws c) k)) where
  -- a reference piece in a register
  pub looked : (ws' : List ℕ) (r : Turn) → b ≡ true → Does cap ms ss ws ws' c r (at_first (cutting y is ms ss cap) (state_of cap ws c) k)
      → Does cap ms ss ws ws' c r (handle_safepoints (cutting y is ms ss cap) (state_of cap ws c) k)
  unfolding handle_safepoints
  looked ws' r t d =
      let e' : looking is (piece (state_of cap ws c) k) ≡ true = sym e ∙ t in
      does_as cap ms ss ws ws' c r (at_first (cutting y is ms ss cap) (state_of cap ws c) k) _ (sym (ap (λ (t : Bool). choose t (at_first (cutting y is ms ss cap) (state_of cap ws c) k) (goes (state_of cap ws c))) e')) d

  -- any other
  pub passed : HeldOf cap is ms ss ws c k → b ≡ false → Does cap ms ss ws ws c (Ok c) (handle_safepoints (cutting y is ms ss cap) (state_of cap ws c) k)
  unfolding handle_safepoints
  passed h t =
      let e' : looking is (piece (state_of cap ws c) k) ≡ false = sym e ∙ t in
      stays cap ms ss ws c k _ (record { ready = h.ready; fit = h.fit; inside = h.inside }) (sym (ap (λ (t : Bool). choose t (at_first (cutting y is ms ss cap) (state_of cap ws c) k) (goes (state_of cap ws c))) e'))

module _ (g : Given) (s : State) (k : ℕ) where
  -- the parts of step 5 read no more than splits and spills of all that a run is given
  until_narrow : (x : Option ℕ) → go_on (split_if_any g s k x) (λ t. goes (spill g t k)) ≡ go_on (split_if_any (narrow g) s k x) (λ t. goes (spill (narrow g) t k))
  unfolding split_if_any split_and_queue split spill
  until_narrow None = refl
  until_narrow (Some n) = refl

  keep_narrow : (x : ℕ) (z : Option ℕ) → keep_or_spill g s k x z ≡ keep_or_spill (narrow g) s k x z
  unfolding keep_or_spill
  keep_narrow x (Some u) = ap (λ (o : Outcome). choose (eqb u (def_point x)) (goes s) o) (and_narrow g s k (use_point x))
  keep_narrow x None = until_narrow _

  first_narrow : (xs : List ℕ) → first_safepoint g s k xs ≡ first_safepoint (narrow g) s k xs
  unfolding first_safepoint
  first_narrow [] = refl
  first_narrow (x ∷ xs) = keep_narrow x _

  -- .. so that step 5 is that of what they read
  pub handle_narrow : handle_safepoints g s k ≡ handle_safepoints (narrow g) s k
  unfolding handle_safepoints
  handle_narrow = ap (λ (o : Outcome). choose (looking g.tables.intervals (piece s k)) o (goes s)) (first_narrow (safepoints_of g (piece s k)))
