-- Steps 1 to 4 for a popped record, and the whole step.
-- Assumes accepted tables.
use Rattle.std.specs.Prelude.{Option, None, Some}
use Prim.Native.Nat.{ℕ, ◌+◌, ◌%◌, ◌≤◌, ◌<◌}
use mathlib.Core.Path.{◌≡◌, refl, sym, ap, ◌∙◌}
use mathlib.Core.Logic.{◌≢◌, ◌⊎◌, inl, inr, ⊎_elim}
use mathlib.Core.Bool.{Bool, true, false, ◌&&◌, ◌||◌}
use mathlib.Core.List.{List, Memᴰ}
use native.Mathlib.Omega.{arith}
use native.Mathlib.Decide.{ℕ_discrete, dec_lt}
use borrow.Author.Tests.{eqb-false, ltb-true, leb-true}
use lib.Dec.{eqb, ltb, leb}
use lib.ListN.{length}
use Rattle.words.specs.Choose.{choose}
use Rattle.rules.specs.declared.Refusal.TheVariants.{NoRegister, OutOfRegisters, FixedClash}
use Rattle.rules.specs.Steps.{Choice}
use Rattle.std.specs.Prelude.{None, Some}
use Rattle.rules.specs.declared.Piece.{Piece}
use Rattle.rules.specs.declared.Place.{Place}
use Rattle.rules.specs.declared.Place.TheVariants.{Nowhere, Register, Slot}
use Rattle.rules.specs.declared.Pos.{Pos}
use Rattle.rules.specs.declared.Pos.TheVariants.{Blocked, At, Never}
use Rattle.rules.specs.Tables.{Tables}
use Rattle.rules.specs.Accepted.{InRange, Accepted}
use Rattle.rules.specs.Positions.{below, lower_of}
use Rattle.rules.specs.Uses.{is_point, next_use, last_use}
use Rattle.rules.specs.State.{Given, State, goes, stops, go_on, with_place, piece, put, points_of, class_of, fragments_of, enqueue}
use Rattle.rules.specs.Slots.{spill}
use Rattle.rules.specs.Split.{split_and_queue, split_if_any, split_and_spill, partial_split}
use Rattle.rules.specs.Steps.{in_register, drop_ended, fixed_active, first_start, holder, is_held, free_until, furthest_of, take_register, pos_of_use, next_use_of, next_use_pos, spill_until, cut_at, cut_before, spill_holder, take_over, weigh, only_scratch, blocked_by, allocate_blocked, take_until, try_at, try_take, allocate, handle_safepoints, step}
use Rattle.rules.proofs.Keeps.{split_state}
use Rattle.theorems.specs.Invariant.{Good, NoOne, at, first_point, last_point, Shape, Usable, Unfixed, Inv, Cut, Clear, SpilledAt}
use Rattle.theorems.specs.Proper.{SpillOk, IfAnyOk, SpillAtOk, UntilOk, CutAtOk, CutOk, HolderOk, TakeOverOk, WeighOk, BlockedByOk, BlockedOk, TakeUntilOk, TryAtOk, TryTakeOk, AllocateOk, SafepointOk, StepOk}
use Rattle.theorems.proofs.ListLaws.{mem_last, keep_passes}
use Rattle.theorems.proofs.UseLaws.{Least, NextIs, LastIs, next_is, last_is, not_point}
use Rattle.theorems.proofs.PieceLaws.{placed, length_placed, at_placed, at_unplaced, length_split, at_old, at_parent, at_child}
use Rattle.theorems.proofs.TableLaws.{at_points, has_first, has_last, whose, spans}
use Rattle.theorems.proofs.FragmentLaws.{in_table, unfixed_never, unfixed_at}
use Rattle.theorems.proofs.ChoiceLaws.{and_true, at_past, Chosen, ChoiceIs, furthest_is, HolderIs, holder_is, lower_above, partial_is}
use Rattle.theorems.proofs.Changes.{nowhere_register, nowhere_slot, register_slot, inv_split, inv_enqueue, inv_take, inv_drop}
use Rattle.theorems.proofs.Spill.{good_on, good_imp, good_if, good_queue, Above, Tailed, tail_spill, tail_spill_ok, spill_both}
use Rattle.theorems.proofs.Safepoints.{But, Taken, safepoint_keeps, safepoint_ok}

-- a record in a register is a record
pub registered : (ps : List Piece) (j : ℕ) → in_register (at ps j).place ≡ true → j < length ps
registered ps j e =
    elim (dec_lt j (length ps)) [
      | yes d ↦ d
      | no d ↦ let z : ◌≡◌ {A = Bool} false true = sym (rw (at_past ps j (omega arith)) refl) ∙ e in let o : ◌≡◌ {A = ℕ} 0 1 = cc in absurd (omega arith)
    ]

-- a record after it took r is as it was but for its place; the others are as they were
module _ (s : State) (k r : ℕ) where
  take_same : k < length s.pieces → at (take_register s k r).pieces k ≡ with_place (Register r) (at s.pieces k)
  unfolding take_register put placed
  take_same h = at_placed s.pieces k (Register r) h

  take_others : (m : ℕ) → m ≢ k → at (take_register s k r).pieces m ≡ at s.pieces m
  unfolding take_register put placed
  take_others m n = at_unplaced s.pieces k (Register r) m n

  take_length : length (take_register s k r).pieces ≡ length s.pieces
  unfolding take_register put placed
  take_length = length_placed s.pieces k (Register r)

  take_active : Memᴰ k (take_register s k r).active
  unfolding take_register put
  take_active = mem_last s.active k

module _ (g : Given) (ok : Accepted g.tables) (small : g.capacity ≤ 16384) where
  abbrev T : Tables
  T = g.tables

  abbrev ms : List ℕ
  ms = g.tables.mentions

  abbrev sp : List ℕ
  sp = g.tables.safepoints

  -- record k is popped at S, and step 1 has run: B4
  pub record Popped (S k : ℕ) (s : State) : Type 0 where
    pub inv : Inv g S (But k) s
    pub here : k < length s.pieces
    pub free : (at s.pieces k).place ≡ Nowhere
    pub begins : (at s.pieces k).start ≡ S
    pub active : (j : ℕ) → Memᴰ j s.active → (in_register (at s.pieces j).place ≡ true) × (S ≤ (at s.pieces j).end)

  -- what steps 1 to 4 leave: record k is spilled, or has taken a register
  abbrev pub Placed : ℕ → ℕ → State → Type 0
  Placed S k t = ((Inv g S NoOne t) × ((z : ℕ) × ((at t.pieces k).place ≡ Slot z))) ⊎ ((r : ℕ) × Taken g ok small S k r t)

  -- record k is cut below p and keeps its place
  abbrev CutOff : ℕ → ℕ → ℕ → State → State → Type 0
  CutOff S k p s t = (SpilledAt g S (But k) s k p t) × (((at t.pieces k).place ≡ (at s.pieces k).place) × ((at t.pieces k).end < p))

  -- a split of the record that is left out, at a Use, tears no mention
  use_cut : (S k p : ℕ) (s : State) → Inv g S (But k) s → k < length s.pieces → S ≤ (at s.pieces k).start → (at s.pieces k).start < p → p ≤ (at s.pieces k).end → p % 2 ≡ 0
      → Good (CutOff S k p s) (split_and_queue g s k p)
  unfolding enqueue
  use_cut S k p s i h b above below even =
      good_queue g s k p (CutOff S k p s)
      (λ room.
      let longer = length_split ms sp s.pieces k p in
      let par = at_parent ms sp s.pieces k p h in
      let chi = at_child ms sp s.pieces k p in
      let proper : Cut g (at s.pieces k) p = record { above = above; below = below; whole = whole } in (
        record {
          inv = inv_enqueue g ok S (But k) (split_state g s k p) (length s.pieces) (inv_split g ok S (But k) s k p i h proper (inl (inr refl)) room) new (omega arith) (omega arith) (rw chi refl) (rw chi (omega arith));
          grows = omega arith;
          others = λ m a d. at_old ms sp s.pieces k p m a d;
          same_interval = rw par refl;
          same_start = rw par refl;
          way = inr (rw par (refl, omega arith));
          stays = λ j a o. rw par (refl, omega arith);
          fresh = λ m a d. let e : m ≡ length s.pieces = omega arith in inr (rw (e, chi) refl);
          active = refl;
        },
        rw par (refl, omega arith),
      ))
    where
      new : But k (length s.pieces) → ⊥
      new (inl x') = elim x' [ ]
      new (inr e) = omega arith

      whole : (j : ℕ) → InRange (at s.pieces k).mentions j → first_point T j < p → last_point T j < p
      whole j a o =
          let q = at_points T ok (at s.pieces k) (i.core.shape k h) j a in
          elim (dec_lt (last_point T j) p) [ yes d ↦ d | no d ↦ let e = q.even (omega arith) in absurd (omega (arith, q.near)) ]

  -- where a partial split falls
  part_spec : (q : Piece) (a p : ℕ) → Shape T q → partial_split g q a ≡ Some p → (q.start < p) × (p < a) × (p % 2 ≡ 0)
  part_spec q a p s e = partial_is g.mode q.start (points_of g q) a p (λ v u. by (last_use a (points_of g q)) (last_is a (points_of g q)) v u) e
    where
      by : (y : Option ℕ) → LastIs a (points_of g q) y → (v : ℕ) → y ≡ Some v → q.start ≤ v
      by None o v u = let z : ◌≡◌ {A = ℕ} 0 1 = cc in absurd (omega arith)
      by (Some x) o v u = let z : x ≡ v = cc in rw (← z) (spans T ok q s x (whose T ok q s x o.has)).0

  -- record k has taken r and is cut before its first fragment; the holder of r is still there
  record Ready (S k r : ℕ) (s₀ s : State) : Type 0 where
    pub inv : Inv g S (But k) s
    pub here : k < length s.pieces
    pub place : (at s.pieces k).place ≡ Register r
    pub begins : (at s.pieces k).start ≡ S
    pub usable : Usable T (at s.pieces k).interval r
    pub tracked : Memᴰ k s.active
    pub unfixed : Unfixed T r S (at s.pieces k).end
    pub grows : length s₀.pieces ≤ length s.pieces
    pub others : (m : ℕ) → m < length s₀.pieces → m ≢ k → at s.pieces m ≡ at s₀.pieces m
    pub fresh : (m : ℕ) → length s₀.pieces ≤ m → m < length s.pieces → (at s.pieces m).place ≢ Register r

  -- neither spilled nor queued is in a register
  not_register : (w : Place) (r : ℕ) → ((z : ℕ) × (w ≡ Slot z)) ⊎ (w ≡ Nowhere) → w ≢ Register r
  not_register w r (inl z) e = register_slot w r z.0 e z.1
  not_register w r (inr z) e = nowhere_register w r z e

  -- the choice among the registers of a piece's class
  abbrev ClassChoice : (ℕ → Pos) → Piece → Choice → Type 0
  ClassChoice pos q c = ChoiceIs pos (class_of g q).scratch (class_of g q).first ((class_of g q).first + (class_of g q).count) c

  chosen : (pos : ℕ → Pos) (q : Piece) → ClassChoice pos q (furthest_of (class_of g q) pos)
  chosen pos q = furthest_is pos (class_of g q).scratch (class_of g q).first ((class_of g q).first + (class_of g q).count) (class_of g q).first (class_of g q).count None (omega arith) (omega arith) tt

  usable : {pos : ℕ → Pos} (q : Piece) (r : ℕ) (p : Pos) → Chosen pos (class_of g q).scratch (class_of g q).first ((class_of g q).first + (class_of g q).count) r p → Usable T q.interval r
  usable {pos} q r p o = record { from = o.from; below = o.below; not_scratch = o.not_scratch }

  module _ (S k : ℕ) (s : State) (d : Popped S k s) where
    sh : Shape T (at s.pieces k)
    sh = d.inv.core.shape k d.here

    start_S : (at s.pieces k).start ≡ S
    start_S = d.begins

    noslot : (t : ℕ) → (at s.pieces k).place ≢ Slot t
    noslot t e = nowhere_slot (at s.pieces k).place t d.free e

    -- step 4, "no mention: spill whole", and "split at first use, queue the child, spill the piece"
    own_tail : Above g ok small (at s.pieces k) (at s.pieces k).start → Good (Placed S k) (go_on (split_if_any g s k (next_use (at s.pieces k).start (points_of g (at s.pieces k)))) (λ t. goes (spill g t k)))
    own_tail ab =
        good_imp (Tailed g ok small S NoOne s k) (Placed S k) (go_on (split_if_any g s k (next_use (at s.pieces k).start (points_of g (at s.pieces k)))) (λ t. goes (spill g t k)))
        (λ t c. inl (c.inv, (c.slot, c.spilt)))
        (tail_spill g ok small S NoOne s k d.inv d.here (λ o. o) noslot (at s.pieces k).start (omega (arith, d.begins)) (omega arith) ab)

    own_ok : Above g ok small (at s.pieces k) (at s.pieces k).start
        → IfAnyOk g s k (next_use (at s.pieces k).start (points_of g (at s.pieces k))) × Good (λ t. SpillOk t k) (split_if_any g s k (next_use (at s.pieces k).start (points_of g (at s.pieces k))))
    own_ok ab = tail_spill_ok g ok small S NoOne s k d.inv d.here (λ o. o) noslot (at s.pieces k).start (omega (arith, d.begins)) (omega arith) ab

    -- what holds a register that may be taken: B4, B6
    holder_free : (r : ℕ) → holder s r ≡ None → (m : ℕ) → m < length s.pieces → m ≢ k → (at s.pieces m).place ≡ Register r → (at s.pieces m).end < S
    holder_free r e m a n p =
        let f : HolderIs s r s.active None = rw e at (holder_is s r s.active) in
        let x = rw p at (d.inv.held m a (out m n)) in
        elim (dec_lt (at s.pieces m).end S) [ yes l ↦ l | no l ↦ absurd (f m (x.tracked (omega arith)) p) ]
      where
        out : (m : ℕ) → m ≢ k → But k m → ⊥
        out m n (inl x') = elim x' [ ]
        out m n (inr o) = n o

    record Holds (r j : ℕ) : Type 0 where
      pub here : j < length s.pieces
      pub other : j ≢ k
      pub place : (at s.pieces j).place ≡ Register r
      pub begun : (at s.pieces j).start ≤ S
      pub lasts : S ≤ (at s.pieces j).end

    holder_held : (r j : ℕ) → holder s r ≡ Some j → Holds r j
    holder_held r j e =
        let f : HolderIs s r s.active (Some j) = rw e at (holder_is s r s.active) in
        let x = d.active j f.0 in
        let a : j < length s.pieces = registered s.pieces j x.0 in
        let n : j ≢ k = λ o. nowhere_register (at s.pieces j).place r (rw o d.free) f.1 in
        record { here = a; other = n; place = f.1; begun = (rw f.1 at (d.inv.held j a (out n))).begun; lasts = x.1 }
      where
        out : j ≢ k → But k j → ⊥
        out n (inl x') = elim x' [ ]
        out n (inr o) = n o

    -- ---- a register r of the class, not fixed-active
    module _ (r : ℕ) (us : Usable T (at s.pieces k).interval r) (off : fixed_active (at s.pieces k).start (fragments_of g r) ≡ false) where
      there : r < length T.registers
      there = in_table T ok (at s.pieces k).interval r sh.named us

      never : first_start (at s.pieces k).start (at s.pieces k).end (fragments_of g r) ≡ Never → Unfixed T r S (at s.pieces k).end
      never e = rw start_S at (unfixed_never T ok r (at s.pieces k).start (at s.pieces k).end there off e)

      until : (b : ℕ) → first_start (at s.pieces k).start (at s.pieces k).end (fragments_of g r) ≡ At b → ((at s.pieces k).start < b) × (b ≤ (at s.pieces k).end) × ((y : ℕ) → y < b → Unfixed T r S y)
      until b e = rw start_S (rw start_S at (unfixed_at T ok r (at s.pieces k).start (at s.pieces k).end there off b e))

      took : at (take_register s k r).pieces k ≡ with_place (Register r) (at s.pieces k)
      took = take_same s k r d.here

      took_length : length (take_register s k r).pieces ≡ length s.pieces
      took_length = take_length s k r

      took_inv : Inv g S (But k) (take_register s k r)
      took_inv = inv_take g ok S (But k) s k r d.inv (inr refl) d.here d.free

      -- taken whole
      ready_whole : Unfixed T r S (at s.pieces k).end → Ready S k r s (take_register s k r)
      ready_whole u =
          record {
            inv = took_inv;
            here = omega (arith, took_length, d.here);
            place = rw took refl;
            begins = rw took d.begins;
            usable = rw took us;
            tracked = take_active s k r;
            unfixed = rw took u;
            grows = omega (arith, took_length);
            others = λ m a n. take_others s k r m n;
            fresh = λ m a b. absurd (omega (arith, took_length));
          }

      -- taken, then cut below p
      ready_cut : (p y : ℕ) → p ≤ y → ((z : ℕ) → z < y → Unfixed T r S z) → (t : State) → SpilledAt g S (But k) (take_register s k r) k p t
          → ((at t.pieces k).place ≡ (at (take_register s k r).pieces k).place) × ((at t.pieces k).end < p) → Ready S k r s t
      ready_cut p y l u t c e =
          record {
            inv = c.inv;
            here = omega (arith, took_length, d.here, c.grows);
            place = e.0 ∙ rw took refl;
            begins = c.same_start ∙ rw took d.begins;
            usable = rw (c.same_interval, took) us;
            tracked = rw c.active (take_active s k r);
            unfixed = u (at t.pieces k).end (omega (arith, e.1));
            grows = omega (arith, took_length, c.grows);
            others = λ m a n. c.others m (omega (arith, took_length)) n ∙ take_others s k r m n;
            fresh = λ m a b. not_register (at t.pieces m).place r (c.fresh m (omega (arith, took_length)) b);
          }

      -- cut below p, then taken
      ready_late : (p y : ℕ) → p ≤ y → ((z : ℕ) → z < y → Unfixed T r S z) → (t : State) → CutOff S k p s t → Ready S k r s (take_register t k r)
      ready_late p y l u t (c, e) =
          let h : k < length t.pieces = omega (arith, d.here, c.grows) in
          let w = take_same t k r h in
          let len = take_length t k r in
          record {
            inv = inv_take g ok S (But k) t k r c.inv (inr refl) h (e.0 ∙ d.free);
            here = omega arith;
            place = rw w refl;
            begins = rw w (c.same_start ∙ d.begins);
            usable = rw (w, c.same_interval) us;
            tracked = take_active t k r;
            unfixed = rw w (u (at t.pieces k).end (omega (arith, e.1)));
            grows = omega (arith, c.grows);
            others = λ m a n. take_others t k r m n ∙ c.others m a n;
            fresh = λ m a b. rw (take_others t k r m (λ o. omega (arith, d.here))) (not_register (at t.pieces m).place r (c.fresh m a (omega arith)));
          }

      -- step 4, "else split-and-spill at b", where b is no mention point
      clear_b : (b : ℕ) → is_point b (points_of g (piece (take_register s k r) k)) ≡ false → Clear g (at s.pieces k) b
      clear_b b x m a =
          let n = not_point b (points_of g (at s.pieces k)) (rw took at x) in
          (λ v. n (rw v at (has_first T ok (at s.pieces k) sh m a)), λ v. n (rw v at (has_last T ok (at s.pieces k) sh m a)))

      spill_b : (b : ℕ) → first_start (at s.pieces k).start (at s.pieces k).end (fragments_of g r) ≡ At b → is_point b (points_of g (piece (take_register s k r) k)) ≡ false
          → Good (SpilledAt g S (But k) (take_register s k r) k b) (split_and_spill g (take_register s k r) k b) × SpillAtOk g (take_register s k r) k b
      spill_b b e x =
          let u = until b e in
          spill_both g ok small S (But k) (take_register s k r) k took_inv (omega (arith, took_length, d.here)) new (λ t v. register_slot (at (take_register s k r).pieces k).place r t (rw took refl) v) (inl (inr refl))
          b (omega (arith, d.begins, u.0)) (rw took (omega (arith, u.0))) (rw took u.1) (rw took (clear_b b x))
        where
          new : (m : ℕ) → length (take_register s k r).pieces ≤ m → But k m → ⊥
          new m a (inl x'') = elim x'' [ ]
          new m a (inr v) = omega (arith, took_length, d.here)

      -- step 4, "if its first fragment start in S..end is b": f, the first use, is below b
      cut_keeps : (f : ℕ) → Least (at s.pieces k).start (points_of g (at s.pieces k)) f
          → (y : Pos) → first_start (at s.pieces k).start (at s.pieces k).end (fragments_of g r) ≡ y → below (At f) y ≡ true → Good (Ready S k r s) (cut_before g (take_register s k r) k y)
      unfolding cut_before cut_at
      cut_keeps f o Blocked e l = let z : ◌≡◌ {A = ℕ} 0 1 = cc in absurd (omega arith)
      cut_keeps f o Never e l = ready_whole (never e)
      cut_keeps f o (At b) e l =
          good_if (Ready S k r s) (is_point b (points_of g (piece (take_register s k r) k))) (stops (FixedClash k)) (cut_at g (take_register s k r) k b (partial_split g (piece (take_register s k r) k) b))
          (λ x. tt) (λ x. at_b (partial_split g (piece (take_register s k r) k) b) refl x)
        where
          at_b : (z : Option ℕ) → partial_split g (piece (take_register s k r) k) b ≡ z → is_point b (points_of g (piece (take_register s k r) k)) ≡ false → Good (Ready S k r s) (cut_at g (take_register s k r) k b z)
          at_b None q x =
              let w = whose T ok (at s.pieces k) sh f o.has in
              good_imp (SpilledAt g S (But k) (take_register s k r) k b) (Ready S k r s) (split_and_spill g (take_register s k r) k b)
              (λ t c. ready_cut b b (omega arith) (until b e).2 t c (c.stays w.who (rw took w.inside) (omega (arith, ltb-true f b l, (spans T ok (at s.pieces k) sh f w).2))))
              (spill_b b e x).0
          at_b (Some p) q x =
              let u = until b e in
              let v = part_spec (at s.pieces k) b p sh (rw took at q) in
              good_imp (CutOff S k p (take_register s k r)) (Ready S k r s) (split_and_queue g (take_register s k r) k p) (λ t c. ready_cut p b (omega (arith, v.1)) u.2 t c.0 c.1)
              (use_cut S k p (take_register s k r) took_inv (omega (arith, took_length, d.here)) (rw took (omega (arith, d.begins))) (rw took v.0) (rw took (omega (arith, v.1, u.1))) v.2)

      cut_ok : (y : Pos) → first_start (at s.pieces k).start (at s.pieces k).end (fragments_of g r) ≡ y → CutOk g (take_register s k r) k y
      cut_ok Blocked e = tt
      cut_ok Never e = tt
      cut_ok (At b) e = λ x. at_b (partial_split g (piece (take_register s k r) k) b) refl x
        where
          at_b : (z : Option ℕ) → partial_split g (piece (take_register s k r) k) b ≡ z → is_point b (points_of g (piece (take_register s k r) k)) ≡ false → CutAtOk g (take_register s k r) k b z
          at_b None q x = (spill_b b e x).1
          at_b (Some p) q x =
              let v = part_spec (at s.pieces k) b p sh (rw took at q) in
              record { here = omega (arith, took_length, d.here); above = rw took v.0; below = rw took (omega (arith, v.1, (until b e).1)) }

      -- r is free: no active record holds it
      ready_free : holder s r ≡ None → (t : State) → Ready S k r s t → Taken g ok small S k r t
      ready_free e t y =
          record {
            inv = y.inv;
            here = y.here;
            place = y.place;
            begins = y.begins;
            usable = y.usable;
            tracked = y.tracked;
            unfixed = y.unfixed;
            free = λ m a n p. go m a n p (dec_lt m (length s.pieces));
          }
        where
          go : (m : ℕ) → m < length t.pieces → m ≢ k → (at t.pieces m).place ≡ Register r → Dec (m < length s.pieces) → (at t.pieces m).end < S
          go m a n p (yes l) = let q : at t.pieces m ≡ at s.pieces m = y.others m l n in rw q (holder_free r e m l n (rw q at p))
          go m a n p (no l) = absurd (y.fresh m (omega arith) a p)

      -- the record j that held r is split and spilled at S
      ready_stolen : (j : ℕ) → Holds r j → (t : State) → Ready S k r s t → (u : State) → SpilledAt g S (But k) t j S u → Taken g ok small S k r u
      ready_stolen j o t y u c =
          let q : at u.pieces k ≡ at t.pieces k = c.others k y.here (λ e. o.other (sym e)) in
          record {
            inv = c.inv;
            here = omega (arith, y.here, c.grows);
            place = rw q y.place;
            begins = rw q y.begins;
            usable = rw q y.usable;
            tracked = rw c.active y.tracked;
            unfixed = rw q y.unfixed;
            free = λ m a n p. go m a n p (dec_lt m (length t.pieces)) (ℕ_discrete m j);
          }
        where
          same : at t.pieces j ≡ at s.pieces j
          same = y.others j o.here o.other

          out : (m : ℕ) → m ≢ k → But k m → ⊥
          out m n (inl x') = elim x' [ ]
          out m n (inr e) = n e

          go : (m : ℕ) → m < length u.pieces → m ≢ k → (at u.pieces m).place ≡ Register r → Dec (m < length t.pieces) → Dec (m ≡ j) → (at u.pieces m).end < S
          go m a n p l (yes e) =
              ⊎_elim (λ (z : (x : ℕ) × ((at u.pieces j).place ≡ Slot x)). register_slot (at u.pieces j).place r z.0 (rw e at p) z.1) (λ (z : ((at u.pieces j).place ≡ (at t.pieces j).place) × ((at u.pieces j).end < S)). rw e z.1)
              c.way
          go m a n p (yes l) (no e) =
              let q : at u.pieces m ≡ at t.pieces m = c.others m l e in
              let p' : (at t.pieces m).place ≡ Register r = rw q at p in
              let x = rw p' at (y.inv.held m l (out m n)) in
              rw q
              (elim (dec_lt (at t.pieces m).end S) [
                | yes v ↦ v
                | no v ↦ absurd (e (y.inv.alone m l (out m n) j (omega (arith, o.here, y.grows)) (out j o.other) r S p' (rw same o.place) (x.begun, omega arith) (rw same o.begun, rw same o.lasts)))
              ])
          go m a n p (no l) (no e) = absurd (not_register (at u.pieces m).place r (c.fresh m (omega arith) a) p)

      -- step 4, "then split-and-spill at S the active piece that held it": its next use is above f, so S is no mention point of it
      spill_h : (f : ℕ) → (at s.pieces k).start ≤ f → (j : ℕ) → holder s r ≡ Some j → below (At f) (next_use_of g s (at s.pieces k).start (Some j)) ≡ true → (t : State) → Ready S k r s t
          → Good (SpilledAt g S (But k) t j S) (split_and_spill g t j S) × SpillAtOk g t j S
      spill_h f lo j e b t y =
          spill_both g ok small S (But k) t j y.inv (omega (arith, o.here, y.grows)) new (λ z p. register_slot (at t.pieces j).place r z (rw same o.place) p) (inr (λ p. nowhere_register (at t.pieces j).place r p (rw same o.place)))
          S (omega arith) (rw same o.begun) (rw same o.lasts) (rw same (clear (next_use S (points_of g (at s.pieces j))) (next_is S (points_of g (at s.pieces j))) (rw start_S at b)))
        where
          o : Holds r j
          o = holder_held r j e

          same : at t.pieces j ≡ at s.pieces j
          same = y.others j o.here o.other

          new : (m : ℕ) → length t.pieces ≤ m → But k m → ⊥
          new m a (inl x') = elim x' [ ]
          new m a (inr v) = omega (arith, y.here)

          sj : Shape T (at s.pieces j)
          sj = d.inv.core.shape j o.here

          clear : (z : Option ℕ) → NextIs S (points_of g (at s.pieces j)) z → below (At f) (pos_of_use z) ≡ true → Clear g (at s.pieces j) S
          clear None n p m a = (λ v. omega (arith, n _ (has_first T ok (at s.pieces j) sj m a)), λ v. omega (arith, n _ (has_last T ok (at s.pieces j) sj m a)))
          clear (Some z) n p m a =
              let l : f < z = ltb-true f z p in
              (λ v. omega (arith, start_S, n.least _ (has_first T ok (at s.pieces j) sj m a) (omega arith)), λ v. omega (arith, start_S, n.least _ (has_last T ok (at s.pieces j) sj m a) (omega arith)))

      steal_keeps : (f : ℕ) → (at s.pieces k).start ≤ f → (x : Option ℕ) → holder s r ≡ x → below (At f) (next_use_of g s (at s.pieces k).start x) ≡ true
          → (t : State) → Ready S k r s t → Good (Placed S k) (spill_holder g t (at s.pieces k).start x)
      unfolding spill_holder
      steal_keeps f lo None e b t y = inr (r, ready_free e t y)
      steal_keeps f lo (Some j) e b t y = rw start_S (good_imp (SpilledAt g S (But k) t j S) (Placed S k) (split_and_spill g t j S) (λ u c. inr (r, ready_stolen j (holder_held r j e) t y u c)) (spill_h f lo j e b t y).0)

      steal_ok : (f : ℕ) → (at s.pieces k).start ≤ f → (x : Option ℕ) → holder s r ≡ x → below (At f) (next_use_of g s (at s.pieces k).start x) ≡ true → (t : State) → Ready S k r s t → HolderOk g t (at s.pieces k).start x
      steal_ok f lo None e b t y = tt
      steal_ok f lo (Some j) e b t y = rw start_S (spill_h f lo j e b t y).1

      take_over_lem : (f : ℕ) → Least (at s.pieces k).start (points_of g (at s.pieces k)) f → below (At f) (next_use_of g s (at s.pieces k).start (holder s r)) ≡ true
          → below (At f) (first_start (at s.pieces k).start (at s.pieces k).end (fragments_of g r)) ≡ true → Good (Placed S k) (take_over g s k r)
      unfolding take_over
      take_over_lem f o a b =
          good_on (Ready S k r s) (Placed S k) (cut_before g (take_register s k r) k (first_start (at s.pieces k).start (at s.pieces k).end (fragments_of g r))) (λ t. spill_holder g t (at s.pieces k).start (holder s r))
          (cut_keeps f o (first_start (at s.pieces k).start (at s.pieces k).end (fragments_of g r)) refl b)
          (steal_keeps f o.from (holder s r) refl a)

      take_over_ok : (f : ℕ) → Least (at s.pieces k).start (points_of g (at s.pieces k)) f → below (At f) (next_use_of g s (at s.pieces k).start (holder s r)) ≡ true
          → below (At f) (first_start (at s.pieces k).start (at s.pieces k).end (fragments_of g r)) ≡ true → TakeOverOk g s k r
      take_over_ok f o a b = (
        cut_ok (first_start (at s.pieces k).start (at s.pieces k).end (fragments_of g r)) refl,
        good_imp (Ready S k r s) (λ t. HolderOk g t (at s.pieces k).start (holder s r)) (cut_before g (take_register s k r) k (first_start (at s.pieces k).start (at s.pieces k).end (fragments_of g r)))
            (steal_ok f o.from (holder s r) refl a) (cut_keeps f o (first_start (at s.pieces k).start (at s.pieces k).end (fragments_of g r)) refl b),
      )

    -- ---- step 4
    module _ (f : ℕ) (e : next_use (at s.pieces k).start (points_of g (at s.pieces k)) ≡ Some f) where
      uses : Least (at s.pieces k).start (points_of g (at s.pieces k)) f
      uses = rw e at (next_is (at s.pieces k).start (points_of g (at s.pieces k)))

      late : f ≢ (at s.pieces k).start → Above g ok small (at s.pieces k) (at s.pieces k).start
      late n m a = let u = uses in omega (arith, u.from, u.least _ (has_first T ok (at s.pieces k) sh m a) (sh.ments.starts m a.0 a.1))

      own_keeps : Good (Placed S k) (spill_until g s k f)
      unfolding spill_until split_if_any
      own_keeps =
          good_if (Placed S k) (eqb f (piece s k).start) (stops (OutOfRegisters k)) (go_on (split_and_queue g s k f) (λ t. goes (spill g t k)))
          (λ x. tt) (λ x. rw e at (own_tail (late (eqb-false f (at s.pieces k).start x))))

      until_ok : UntilOk g s k f
      unfolding split_if_any
      until_ok n = rw e at (own_ok (late n))

      -- what a register above f is: not fixed-active, its holder's next use and its first fragment above f
      reach : (r : ℕ) (p : Pos) → p ≡ next_use_pos g s (at s.pieces k) r → below (At f) p ≡ true
          → (fixed_active (at s.pieces k).start (fragments_of g r) ≡ false) × (below (At f) (next_use_of g s (at s.pieces k).start (holder s r)) ≡ true) × (below (At f) (first_start (at s.pieces k).start (at s.pieces k).end (fragments_of g r)) ≡ true)
      unfolding next_use_pos
      reach r p o b = by (fixed_active (at s.pieces k).start (fragments_of g r)) refl (sym (ap (below (At f)) o) ∙ b)
        where
          by : (x : Bool) → fixed_active (at s.pieces k).start (fragments_of g r) ≡ x
              → below (At f) (choose x Blocked (lower_of (next_use_of g s (at s.pieces k).start (holder s r)) (first_start (at s.pieces k).start (at s.pieces k).end (fragments_of g r)))) ≡ true
              → (fixed_active (at s.pieces k).start (fragments_of g r) ≡ false) × (below (At f) (next_use_of g s (at s.pieces k).start (holder s r)) ≡ true) × (below (At f) (first_start (at s.pieces k).start (at s.pieces k).end (fragments_of g r)) ≡ true)
          by true v w = let z : ◌≡◌ {A = ℕ} 0 1 = cc in absurd (omega arith)
          by false v w = let y = lower_above f (next_use_of g s (at s.pieces k).start (holder s r)) (first_start (at s.pieces k).start (at s.pieces k).end (fragments_of g r)) w in (v, y.0, y.1)

      weigh_keeps : (c : Choice) → ClassChoice (next_use_pos g s (at s.pieces k)) (at s.pieces k) c → Good (Placed S k) (weigh g s k f c)
      unfolding weigh
      weigh_keeps None o = own_keeps
      weigh_keeps (Some e) o =
          good_if (Placed S k) (below (At f) e.pos) (take_over g s k e.register) (spill_until g s k f)
          (λ b. let y = reach e.register e.pos o.is b in take_over_lem e.register (usable (at s.pieces k) e.register e.pos o) y.0 f uses y.1 y.2)
          (λ b. own_keeps)

      weigh_ok : (c : Choice) → ClassChoice (next_use_pos g s (at s.pieces k)) (at s.pieces k) c → WeighOk g s k f c
      weigh_ok None o = until_ok
      weigh_ok (Some e) o = (λ b. let y = reach e.register e.pos o.is b in take_over_ok e.register (usable (at s.pieces k) e.register e.pos o) y.0 f uses y.1 y.2, λ b. until_ok)

    -- no next use: all mentions lie above S, since there is none
    no_use : next_use (at s.pieces k).start (points_of g (at s.pieces k)) ≡ None → Above g ok small (at s.pieces k) (at s.pieces k).start
    no_use e m a = let n : NextIs (at s.pieces k).start (points_of g (at s.pieces k)) None = rw e at (next_is (at s.pieces k).start (points_of g (at s.pieces k))) in absurd (omega (arith, n _ (has_first T ok (at s.pieces k) sh m a), sh.ments.starts m a.0 a.1))

    blocked_keeps : Good (Placed S k) (allocate_blocked g s k)
    unfolding allocate_blocked blocked_by split_if_any
    blocked_keeps = by (next_use (at s.pieces k).start (points_of g (at s.pieces k))) refl
      where
        by : (x : Option ℕ) → next_use (at s.pieces k).start (points_of g (at s.pieces k)) ≡ x → Good (Placed S k) (blocked_by g s k x)
        by None e = rw e at (own_tail (no_use e))
        by (Some f) e =
            good_if (Placed S k) (only_scratch (class_of g (piece s k))) (stops (NoRegister k)) (weigh g s k f (furthest_of (class_of g (piece s k)) (next_use_pos g s (piece s k))))
            (λ x. tt) (λ x. weigh_keeps f e (furthest_of (class_of g (piece s k)) (next_use_pos g s (piece s k))) (chosen (next_use_pos g s (at s.pieces k)) (at s.pieces k)))

    blocked_ok : BlockedOk g s k
    blocked_ok = by (next_use (at s.pieces k).start (points_of g (at s.pieces k))) refl
      where
        by : (x : Option ℕ) → next_use (at s.pieces k).start (points_of g (at s.pieces k)) ≡ x → BlockedByOk g s k x
        by None e = record { here = d.here; unspilled = noslot }
        by (Some f) e = λ x. weigh_ok f e (furthest_of (class_of g (piece s k)) (next_use_pos g s (piece s k))) (chosen (next_use_pos g s (at s.pieces k)) (at s.pieces k))

    -- ---- steps 2 and 3
    -- a register that is not blocked has no active record and no fragment at S
    open_until : (r : ℕ) (p : Pos) → free_until g s (at s.pieces k) r ≡ p → p ≢ Blocked
        → (holder s r ≡ None) × (fixed_active (at s.pieces k).start (fragments_of g r) ≡ false) × (first_start (at s.pieces k).start (at s.pieces k).end (fragments_of g r) ≡ p)
    unfolding free_until
    open_until r p e n = by (holder s r) refl (fixed_active (at s.pieces k).start (fragments_of g r)) refl e
      where
        by : (x : Option ℕ) → holder s r ≡ x → (y : Bool) → fixed_active (at s.pieces k).start (fragments_of g r) ≡ y
            → choose (is_held x || y) Blocked (first_start (at s.pieces k).start (at s.pieces k).end (fragments_of g r)) ≡ p
            → (holder s r ≡ None) × (fixed_active (at s.pieces k).start (fragments_of g r) ≡ false) × (first_start (at s.pieces k).start (at s.pieces k).end (fragments_of g r) ≡ p)
        by (Some j) hx y hy v = absurd (n (sym v))
        by None hx true hy v = absurd (n (sym v))
        by None hx false hy v = (hx, hy, v)

    module _ (r : ℕ) (us : Usable T (at s.pieces k).interval r) (fr : holder s r ≡ None) (off : fixed_active (at s.pieces k).start (fragments_of g r) ≡ false) where
      take_keeps : (p : Pos) → first_start (at s.pieces k).start (at s.pieces k).end (fragments_of g r) ≡ p → p ≢ Blocked → Good (Placed S k) (try_at g s k r p)
      unfolding try_at take_until
      take_keeps Blocked v w = absurd (w refl)
      take_keeps Never v w = inr (r, ready_free r us off fr (take_register s k r) (ready_whole r us off (never r us off v)))
      take_keeps (At a) v w =
          good_if (Placed S k) (ltb (piece s k).end a) (goes (take_register s k r)) (take_until g s k r (partial_split g (piece s k) a))
          (λ x. let u = until r us off a v in absurd (omega (arith, u.1, ltb-true (at s.pieces k).end a x)))
          (λ x. part (partial_split g (piece s k) a) refl)
        where
          part : (z : Option ℕ) → partial_split g (piece s k) a ≡ z → Good (Placed S k) (take_until g s k r z)
          part None q = blocked_keeps
          part (Some x) q =
              let u = until r us off a v in
              let o = part_spec (at s.pieces k) a x sh q in
              good_on (CutOff S k x s) (Placed S k) (split_and_queue g s k x) (λ t. goes (take_register t k r))
              (use_cut S k x s d.inv d.here (omega (arith, d.begins)) o.0 (omega (arith, o.1, u.1)) o.2)
              (λ t c. inr (r, ready_free r us off fr (take_register t k r) (ready_late r us off x a (omega (arith, o.1)) u.2 t c)))

      take_ok : (p : Pos) → first_start (at s.pieces k).start (at s.pieces k).end (fragments_of g r) ≡ p → TryAtOk g s k p
      take_ok Blocked v = blocked_ok
      take_ok Never v = tt
      take_ok (At a) v = λ x. part (partial_split g (piece s k) a) refl
        where
          part : (z : Option ℕ) → partial_split g (piece s k) a ≡ z → TakeUntilOk g s k z
          part None q = blocked_ok
          part (Some x) q = let o = part_spec (at s.pieces k) a x sh q in record { here = d.here; above = o.0; below = omega (arith, o.1, (until r us off a v).1) }

    -- steps 2 to 4
    pub allocate_keeps : Good (Placed S k) (allocate g s k)
    unfolding allocate try_take
    allocate_keeps = by (furthest_of (class_of g (piece s k)) (free_until g s (piece s k))) (chosen (free_until g s (at s.pieces k)) (at s.pieces k))
      where
        by : (c : Choice) → ClassChoice (free_until g s (at s.pieces k)) (at s.pieces k) c → Good (Placed S k) (try_take g s k c)
        by None o = blocked_keeps
        by (Some e) o = let y = open_until e.register e.pos (sym o.is) o.unblocked in take_keeps e.register (usable (at s.pieces k) e.register e.pos o) y.0 y.1 e.pos y.2 o.unblocked

    pub allocate_ok : AllocateOk g s k
    allocate_ok = by (furthest_of (class_of g (piece s k)) (free_until g s (piece s k))) (chosen (free_until g s (at s.pieces k)) (at s.pieces k))
      where
        by : (c : Choice) → ClassChoice (free_until g s (at s.pieces k)) (at s.pieces k) c → TryTakeOk g s k c
        by None o = blocked_ok
        by (Some e) o = let y = open_until e.register e.pos (sym o.is) o.unblocked in take_ok e.register (usable (at s.pieces k) e.register e.pos o) y.0 y.1 e.pos y.2

  -- step 1, on a record just popped
  pub popped : (S k : ℕ) (s : State) → Inv g S (But k) s → k < length s.pieces → (at s.pieces k).place ≡ Nowhere → (at s.pieces k).start ≡ S → Popped S k (drop_ended s S)
  unfolding drop_ended
  popped S k s i h f b =
      record {
        inv = dropped;
        here = h;
        free = f;
        begins = b;
        active = λ j m. let o = and_true (in_register (at s.pieces j).place) (leb S (at s.pieces j).end) (keep_passes (λ j. in_register (at s.pieces j).place && leb S (at s.pieces j).end) s.active m) in (o.0, leb-true S (at s.pieces j).end o.1);
      }
    where
      dropped : Inv g S (But k) (drop_ended s S)
      dropped = inv_drop g ok S (But k) s i

  -- steps 1 to 5 keep the invariant, for every record
  pub step_keeps : (S k : ℕ) (s : State) → Inv g S (But k) s → k < length s.pieces → (at s.pieces k).place ≡ Nowhere → (at s.pieces k).start ≡ S → Good (Inv g S NoOne) (step g s k)
  unfolding step handle_safepoints
  step_keeps S k s i h f b =
      rw b
      (good_on (Placed S k) (Inv g S NoOne) (allocate g (drop_ended s S) k) (λ t. handle_safepoints g t k) (allocate_keeps S k (drop_ended s S) (popped S k s i h f b)) after)
    where
      after : (t : State) → Placed S k t → Good (Inv g S NoOne) (handle_safepoints g t k)
      after t (inl (x, (z, e))) = rw e x
      after t (inr (r, y)) = safepoint_keeps g ok small S k r t y

  -- and each of its splits and spills is proper
  pub step_ok : (S k : ℕ) (s : State) → Inv g S (But k) s → k < length s.pieces → (at s.pieces k).place ≡ Nowhere → (at s.pieces k).start ≡ S → StepOk g s k
  step_ok S k s i h f b =
      let d = popped S k s i h f b in
      rw b (
        allocate_ok S k (drop_ended s S) d,
        good_imp (Placed S k) (λ t. SafepointOk g t k) (allocate g (drop_ended s S) k) after (allocate_keeps S k (drop_ended s S) d),
      )
    where
      after : (t : State) → Placed S k t → SafepointOk g t k
      after t (inl (x, (z, e))) = λ o. let q : ◌≡◌ {A = Bool} false true = sym (rw e refl) ∙ o in let c : ◌≡◌ {A = ℕ} 0 1 = cc in absurd (omega arith)
      after t (inr (r, y)) = safepoint_ok g ok small S k r t y
