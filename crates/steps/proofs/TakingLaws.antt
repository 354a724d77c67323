-- A register that is taken in the work area is taken in the rules.
-- Assumes nothing.
use Rattle.std.specs.Prelude.{Option, None, Some, Ok, Err}
use Prim.Native.Nat.{ℕ, ◌+◌, ◌≤◌, ◌<◌}
use mathlib.Core.Path.{◌≡◌, refl, sym, ◌∙◌}
use mathlib.Core.Bool.{Bool, true, false}
use mathlib.Core.List.{List, [], ◌∷◌, ◌++◌}
use mathlib.Core.Logic.{◌⊎◌, ⊎_elim}
use native.Mathlib.Omega.{arith}
use lib.ListN.{length}
use Rattle.words.specs.Packed.{part}
use Rattle.rules.specs.declared.Refusal.{Refusal}
use Rattle.rules.specs.declared.Refusal.TheVariants.{FixedClash}
use Rattle.rules.specs.declared.Mode.{Mode}
use Rattle.rules.specs.declared.Piece.{Piece}
use Rattle.rules.specs.declared.Place.TheVariants.{Register}
use Rattle.rules.specs.declared.Pos.{Pos}
use Rattle.rules.specs.declared.Pos.TheVariants.{Blocked, At, Never}
use Rattle.rules.specs.declared.Strategy.{Strategy}
use Rattle.rules.specs.declared.Strategy.TheVariants.{From}
use Rattle.rules.specs.Uses.{mention_points, is_point}
use Rattle.rules.specs.State.{State, Outcome, goes, stops, put, with_active}
use Rattle.rules.specs.Split.{split_and_queue, split_and_spill, partial_place}
use Rattle.rules.specs.Steps.{take_register, cut_at, cut_before, spill_holder}
use Rattle.store.specs.declared.Counts.{Counts}
use Rattle.store.specs.StateOf.{state_of, After, Got}
use Rattle.store.proofs.StateLaws.{records_are}
use Rattle.split.specs.Turns.{Turn}
use Rattle.split.specs.Fit.{Fit}
use Rattle.split.specs.Turns.{cutting, outcome_of, Held, HeldOf, Turned, on, off, Does}
use Rattle.split.proofs.FitLaws.{fit_put}
use Rattle.split.proofs.SpillLaws.{stays}
use Rattle.split.proofs.NarrowLaws.{queue_any, and_narrow, holder_narrow}
use Rattle.steps.specs.Stepping.{placing, Popping, Took, Holding, TakesOver, take_over_at, Stays, Ended, ended, refused, Did}

-- what a turn leaves, where a register may have been taken before it
pub ended_from : (cap : ℕ) (ms ss ws : List ℕ) (c e : Counts) (r : Turn) → c.records ≤ e.records → e.intervals ≡ c.intervals → Turned cap ms ss ws e r → Ended cap ms ss ws c r
ended_from cap ms ss ws c e r l i (on d w) = ended d (record { ready = w.ready; fit = w.fit; records = omega (arith, w.records); intervals = w.intervals ∙ i })
ended_from cap ms ss ws c e r l i (off a) = refused a

-- a turn in which no register was taken
pub did : (cap : ℕ) (ms ss ws ws' : List ℕ) (c : Counts) (r : Turn) (o : Outcome) → Does cap ms ss ws ws' c r o → Did cap ms ss ws ws' c r o
did cap ms ss ws ws' c r o d = record { meets = d.meets; ends = ended_from cap ms ss ws' c c r (omega arith) refl d.turned; long = d.long }

-- the place was put, then the record made active
pub took : (cap : ℕ) (ws ws₁ ws₂ : List ℕ) (c d : Counts) (k r : ℕ) → After cap ws ws₁ c c (put (state_of cap ws c) k (Register r)) c.records c.queued c.active
    → After cap ws₁ ws₂ c d (with_active ((state_of cap ws₁ c).active ++ (k ∷ [])) (state_of cap ws₁ c)) c.records c.queued (c.active + 1) → Took cap ws ws₂ c d k r
unfolding take_register put
took cap ws ws₁ ws₂ c d k r a b =
    record { after = record { is = rw a.is at b.is; ready = b.ready; records = b.records; queued = b.queued; active = b.active; intervals = b.intervals; long = b.long ∙ a.long } }

module _ (cap : ℕ) (is ms ss : List ℕ) where
  -- a held record is held
  pub of_held : (ws : List ℕ) (c : Counts) (k : ℕ) → HeldOf cap is ms ss ws c k → Held cap ms ss ws c k
  of_held ws c k h = record { ready = h.ready; fit = h.fit; inside = h.inside }

  pub fit_take : (s : State) (k r : ℕ) → k < length s.pieces → Fit ms ss s.pieces → Fit ms ss (take_register s k r).pieces
  unfolding take_register
  fit_take s k r l f = fit_put ms ss s k (Register r) l f

  -- the record that took a register is held
  pub took_held : (ws ws' : List ℕ) (c d : Counts) (k r : ℕ) → HeldOf cap is ms ss ws c k → Took cap ws ws' c d k r → HeldOf cap is ms ss ws' d k
  took_held ws ws' c d k r h t =
      record {
        ready = t.after.ready;
        fit = rw t.after.is (fit_take (state_of cap ws c) k r (rw (records_are cap ws c h.ready) h.inside) h.fit);
        inside = omega (arith, t.after.records, h.inside);
        rows = t.after.intervals ∙ h.rows;
      }

  -- the piece that was read can be walked
  module _ (m : Mode) (ws : List ℕ) (c : Counts) (k : ℕ) where
    -- cut where the partial split falls, or by split-and-spill
    pub cut_part : (ws' : List ℕ) (b p : ℕ) (x : Option ℕ) (r : Turn) → x ≡ Some p → Does cap ms ss ws ws' c r (split_and_queue (cutting From [] ms ss cap) (state_of cap ws c) k p)
        → Does cap ms ss ws ws' c r (cut_at (placing m is ms ss cap) (state_of cap ws c) k b x)
    unfolding cut_at
    cut_part ws' b p x r e d = record { meets = rw e (d.meets ∙ sym (queue_any (placing m is ms ss cap) (state_of cap ws c) k p)); turned = d.turned; long = d.long }

    pub cut_spill : (ws' : List ℕ) (b : ℕ) (y : Strategy) (x : Option ℕ) (r : Turn) → x ≡ None → y ≡ m.strategy → Does cap ms ss ws ws' c r (split_and_spill (cutting y is ms ss cap) (state_of cap ws c) k b)
        → Does cap ms ss ws ws' c r (cut_at (placing m is ms ss cap) (state_of cap ws c) k b x)
    unfolding cut_at
    cut_spill ws' b y x r e f d = record { meets = rw e ((rw f at d.meets) ∙ sym (and_narrow (placing m is ms ss cap) (state_of cap ws c) k b)); turned = d.turned; long = d.long }

    -- 13: the piece has a mention at b
    pub clash : (b : ℕ) (q : Piece) (t : Bool) → HeldOf cap is ms ss ws c k → Got cap ws c k q → t ≡ is_point b (mention_points (part q.mentions ms)) → t ≡ true
        → Does cap ms ss ws ws c (Err (FixedClash k)) (cut_before (placing m is ms ss cap) (state_of cap ws c) k (At b))
    unfolding outcome_of cut_before
    clash b q t h g e y =
        let e' : is_point b (mention_points (part q.mentions ms)) ≡ true = sym e ∙ y in record { meets = sym (rw (← g.is, e')); turned = off _; long = refl }

    -- .. or none, and is cut
    pub no_clash : (ws' : List ℕ) (b : ℕ) (q : Piece) (t : Bool) (x : Option ℕ) (r : Turn) → Got cap ws c k q → t ≡ is_point b (mention_points (part q.mentions ms)) → t ≡ false
        → x ≡ partial_place m q.start (mention_points (part q.mentions ms)) b → Does cap ms ss ws ws' c r (cut_at (placing m is ms ss cap) (state_of cap ws c) k b x)
        → Does cap ms ss ws ws' c r (cut_before (placing m is ms ss cap) (state_of cap ws c) k (At b))
    unfolding cut_before
    no_clash ws' b q t x r g e n f d =
        let e' : is_point b (mention_points (part q.mentions ms)) ≡ false = sym e ∙ n in
        record { meets = rw (← g.is, e', ← f) d.meets; turned = d.turned; long = d.long }

    -- no fragment starts in the piece
    pub uncut : (b : Pos) → HeldOf cap is ms ss ws c k → (b ≡ Blocked) ⊎ (b ≡ Never) → Does cap ms ss ws ws c (Ok c) (cut_before (placing m is ms ss cap) (state_of cap ws c) k b)
    unfolding cut_before
    uncut b h o = ⊎_elim (λ e. stays cap ms ss ws c k _ (of_held ws c k h) (rw e)) (λ e. stays cap ms ss ws c k _ (of_held ws c k h) (rw e)) o

  -- nobody held the register, or its holder is spilled
  module _ (y : Strategy) (ws : List ℕ) (c : Counts) (S : ℕ) (h : Option ℕ) where
    pub unheld : Holding cap is ms ss ws c h → h ≡ None → Does cap ms ss ws ws c (Ok c) (spill_holder (cutting y is ms ss cap) (state_of cap ws c) S h)
    unfolding outcome_of spill_holder
    unheld t e =
        record { meets = rw e; turned = on c (record { ready = t.ready; fit = t.fit; records = omega arith; intervals = refl; slack = omega arith }); long = refl }

    pub robbed : (ws' : List ℕ) (j : ℕ) (r : Turn) → h ≡ Some j → Does cap ms ss ws ws' c r (split_and_spill (cutting y is ms ss cap) (state_of cap ws c) j S)
        → Does cap ms ss ws ws' c r (spill_holder (cutting y is ms ss cap) (state_of cap ws c) S h)
    unfolding spill_holder
    robbed ws' j r e d = record { meets = rw e d.meets; turned = d.turned; long = d.long }

  pub popping_took : (ws ws₁ : List ℕ) (c d : Counts) (k r : ℕ) → Popping cap is ms ss ws c k → Took cap ws ws₁ c d k r → HeldOf cap is ms ss ws₁ d k
  popping_took ws ws₁ c d k r t u = took_held ws ws₁ c d k r (record { ready = t.ready; fit = t.fit; inside = t.inside; rows = t.rows }) u

  -- it took the register, and what is done after is done from there
  pub took_did : (ws ws₁ ws₂ : List ℕ) (c d : Counts) (k r : ℕ) (m : Mode) (b : Pos) (x : Turn) → Took cap ws ws₁ c d k r
      → Does cap ms ss ws₁ ws₂ d x (cut_before (placing m is ms ss cap) (state_of cap ws₁ d) k b) → Did cap ms ss ws ws₂ c x (cut_before (placing m is ms ss cap) (take_register (state_of cap ws c) k r) k b)
  took_did ws ws₁ ws₂ c d k r m b x u v =
      record {
        meets = rw u.after.is at v.meets;
        ends = ended_from cap ms ss ws₂ c d x (omega (arith, u.after.records)) u.after.intervals v.turned;
        long = v.long ∙ u.after.long;
      }

  -- a turn that ended, and is matched on
  pub ended_stays : (ws : List ℕ) (c e : Counts) (x : Turn) → Ended cap ms ss ws c x → x ≡ Ok e → Stays cap ms ss ws c e
  ended_stays ws c e x h o = go x h o
    where
      go : (t : Turn) → Ended cap ms ss ws c t → t ≡ Ok e → Stays cap ms ss ws c e
      go t (ended d w) f = let same : d ≡ e = cc in rw same at w
      go t (refused a) f = let z : ◌≡◌ {A = ℕ} 0 1 = cc in absurd (omega arith)

  module _ (m : Mode) (ws ws₁ : List ℕ) (c : Counts) (k r S : ℕ) (b : Pos) (h : Option ℕ) (x : Turn) where
    -- the holder is still a record
    pub over_holding : (e : Counts) (o : Outcome) → TakesOver cap is ms ss ws c k S h → Did cap ms ss ws ws₁ c x o → x ≡ Ok e → Holding cap is ms ss ws₁ e h
    over_holding e o t v i =
        let w = ended_stays ws₁ c e x v.ends i in
        record { ready = w.ready; fit = w.fit; rows = w.intervals ∙ t.rows; inside = λ j z. omega (arith, t.held j z, w.records) }

    -- the record took the register, was cut, and the holder was spilled
    pub taken_over : (ws₂ : List ℕ) (y : Strategy) (e : Counts) (z : Turn) → TakesOver cap is ms ss ws c k S h
        → Did cap ms ss ws ws₁ c x (cut_before (placing m is ms ss cap) (take_register (state_of cap ws c) k r) k b) → x ≡ Ok e → y ≡ m.strategy
        → Does cap ms ss ws₁ ws₂ e z (spill_holder (cutting y is ms ss cap) (state_of cap ws₁ e) S h)
        → Did cap ms ss ws ws₂ c z (take_over_at (placing m is ms ss cap) (state_of cap ws c) k r b h)
    unfolding outcome_of
    taken_over ws₂ y e z t v i f n =
        let w = ended_stays ws₁ c e x v.ends i in
        let g : cut_before (placing m is ms ss cap) (take_register (state_of cap ws c) k r) k b ≡ goes (state_of cap ws₁ e) = sym v.meets ∙ rw i in
        record {
          meets = rw (g, ← t.starts, holder_narrow (placing m is ms ss cap) (state_of cap ws₁ e) S h) (rw f at n.meets);
          ends = ended_from cap ms ss ws₂ c e z w.records w.intervals n.turned;
          long = n.long ∙ v.long;
        }

    -- or it was refused
    pub over_off : (a : Refusal) → Did cap ms ss ws ws₁ c x (cut_before (placing m is ms ss cap) (take_register (state_of cap ws c) k r) k b) → x ≡ Err a
        → Did cap ms ss ws ws₁ c (Err a) (take_over_at (placing m is ms ss cap) (state_of cap ws c) k r b h)
    unfolding outcome_of
    over_off a v i =
        let g : cut_before (placing m is ms ss cap) (take_register (state_of cap ws c) k r) k b ≡ stops a = sym v.meets ∙ rw i in
        record { meets = rw g; ends = refused a; long = v.long }
