-- Step 5: a record that took its register keeps it with Def of its first safepoint as a mention point, or is cut before that safepoint, or is spilled.
-- Assumes accepted tables.
use Rattle.std.specs.Prelude.{Option, None, Some}
use Prim.Native.Nat.{ℕ, ◌+◌, ◌≤◌, ◌<◌}
use mathlib.Core.Path.{◌≡◌, refl, sym, ap, ◌∙◌}
use mathlib.Core.Logic.{◌≢◌, inl, inr, ⊎_elim}
use mathlib.Core.Bool.{Bool, true, false, ◌&&◌}
use mathlib.Core.List.{List, [], ◌∷◌, Memᴰ}
use native.Mathlib.Omega.{arith}
use native.Mathlib.Decide.{ℕ_discrete, dec_lt}
use borrow.Author.Tests.{eqb-true, eqb-false}
use lib.Dec.{eqb}
use lib.ListN.{length, get_or}
use Rattle.words.specs.Points.{use_point, def_point}
use Rattle.rules.specs.declared.Piece.{Piece}
use Rattle.rules.specs.declared.Place.TheVariants.{Nowhere, Register, Slot}
use Rattle.rules.specs.Tables.{Tables}
use Rattle.rules.specs.Accepted.{InRange, interval, safepoint, Accepted}
use Rattle.rules.specs.Uses.{next_use, last_use}
use Rattle.rules.specs.State.{Given, State, goes, go_on, points_of, safepoints_of, interval_of}
use Rattle.rules.specs.Slots.{spill}
use Rattle.rules.specs.Split.{split_if_any, split_and_spill}
use Rattle.rules.specs.Steps.{in_register, keep_or_spill, first_safepoint, handle_safepoints}
use Rattle.theorems.specs.Invariant.{Good, NoOne, at, first_point, last_point, use_at, Shape, Usable, Unfixed, SafeOf, Inv, Clear, SpilledAt}
use Rattle.theorems.specs.Proper.{KeepOk, FirstOk, SafepointOk}
use Rattle.theorems.proofs.RunLaws.{run_has}
use Rattle.theorems.proofs.ListLaws.{length_part, at_part}
use Rattle.theorems.proofs.UseLaws.{Greatest, LastIs, last_is}
use Rattle.theorems.proofs.TableLaws.{at_points, has_first, has_last, whose, spans, safepoints_rise, redefined}
use Rattle.theorems.proofs.Changes.{Or, nowhere_register, register_slot, inv_settle}
use Rattle.theorems.proofs.Spill.{good_imp, good_if, Tailed, tail_spill, tail_spill_ok, spill_spec, spill_ok}

-- no record but k is left out
abbrev pub But : ℕ → ℕ → Type 0
But k = Or NoOne k

module _ (g : Given) (ok : Accepted g.tables) (small : g.capacity ≤ 16384) where
  abbrev T : Tables
  T = g.tables

  -- record k, popped at S, has taken register r, free from S on and not fixed inside k
  pub record Taken (S k r : ℕ) (s : State) : Type 0 where
    pub inv : Inv g S (But k) s
    pub here : k < length s.pieces
    pub place : (at s.pieces k).place ≡ Register r
    pub begins : (at s.pieces k).start ≡ S
    pub usable : Usable T (at s.pieces k).interval r
    pub tracked : Memᴰ k s.active
    pub unfixed : Unfixed T r S (at s.pieces k).end
    pub free : (m : ℕ) → m < length s.pieces → m ≢ k → (at s.pieces m).place ≡ Register r → (at s.pieces m).end < S

  -- with its safepoint in order, nothing is left out
  pub settle_taken : (S k r : ℕ) (s : State) → Taken S k r s → SafeOf T (at s.pieces k).interval (at s.pieces k).mentions (at s.pieces k).safepoints → Inv g S NoOne s
  settle_taken S k r s d f =
      inv_settle g ok S NoOne s k d.inv
      (rw d.place (record { usable = d.usable; begun = omega (arith, d.begins); tracked = λ e. d.tracked; unfixed = rw d.begins d.unfixed; safe = f }))
      (λ r' e m a n o p x u v.
      let q : r ≡ r' = of (sym d.place ∙ e) in
      absurd (omega (arith, d.free m a o (p ∙ ap Register (sym q)), d.begins)))
    where
      of : {r' : ℕ} → Register r ≡ Register r' → r ≡ r'
      of {r'} e = cc

  -- a cut of k below p that keeps its place keeps the rest
  pub taken_cut : (S k r p : ℕ) (s t : State) → Taken S k r s → p ≤ (at s.pieces k).end → SpilledAt g S (But k) s k p t
      → ((at t.pieces k).place ≡ (at s.pieces k).place) × ((at t.pieces k).end < p) → Taken S k r t
  taken_cut S k r p s t d hi c e =
      record {
        inv = c.inv;
        here = omega (arith, d.here, c.grows);
        place = e.0 ∙ d.place;
        begins = c.same_start ∙ d.begins;
        usable = rw c.same_interval d.usable;
        tracked = rw c.active d.tracked;
        unfixed = λ f a x u v. d.unfixed f a x u (omega (arith, e.1));
        free = λ m a n o. go m a n o (dec_lt m (length s.pieces));
      }
    where
      go : (m : ℕ) → m < length t.pieces → m ≢ k → (at t.pieces m).place ≡ Register r → Dec (m < length s.pieces) → (at t.pieces m).end < S
      go m a n o (yes l) = let q : at t.pieces m ≡ at s.pieces m = c.others m l n in rw q (d.free m l n (rw q at o))
      go m a n o (no l) =
          ⊎_elim (λ (z : (y : ℕ) × ((at t.pieces m).place ≡ Slot y)). register_slot (at t.pieces m).place r z.0 o z.1) (λ (z : (at t.pieces m).place ≡ Nowhere). nowhere_register (at t.pieces m).place r z o)
          (c.fresh m (omega arith) a)

  -- what ends before the first safepoint of q, and begins with q, holds none
  no_safe : (q q' : Piece) → Shape T q → Shape T q' → q'.interval ≡ q.interval → q'.start ≡ q.start → 0 < q.safepoints.count → q'.end < use_at T q.safepoints.index → 0 < q'.safepoints.count → ⊥
  no_safe q q' s s' e f h l o =
      let i = q.safepoints.index in
      let i' = q'.safepoints.index in
      let a : q'.start ≤ use_at T i' = s'.safes.starts i' (omega arith) (omega arith) in
      let b : use_at T i' ≤ q'.end = s'.safes.ends i' (omega arith) (omega arith) in
      let z : use_at T i ≤ q.end = s.safes.ends i (omega arith) (omega arith) in
      let c : (interval T q.interval).safepoints.index ≤ i' = rw e at s'.safes.low in
      let d : i' + q'.safepoints.count ≤ (interval T q.interval).safepoints.index + (interval T q.interval).safepoints.count = rw e at s'.safes.high in
      let m = run_has (safepoints_rise T ok q.interval s.named) s.safes i' c (omega arith) (omega arith) (omega arith) in
      elim (ℕ_discrete i i') [
        | yes v ↦ absurd (omega (arith, ap (use_at T) v))
        | no v ↦ absurd (omega (arith, (safepoints_rise T ok q.interval s.named).asc i i' s.safes.low (omega arith) (omega arith)))
      ]

  module _ (S k r : ℕ) (s : State) (d : Taken S k r s) where
    sh : Shape T (at s.pieces k)
    sh = d.inv.core.shape k d.here

    noslot : (t : ℕ) → (at s.pieces k).place ≢ Slot t
    noslot t e = register_slot (at s.pieces k).place r t d.place e

    new : (m : ℕ) → length s.pieces ≤ m → But k m → ⊥
    new m l (inl x') = elim x' [ ]
    new m l (inr e) = omega (arith, d.here)

    mine : (j : ℕ) → InRange (at s.pieces k).mentions j → InRange (interval T (at s.pieces k).interval).mentions j
    mine j a = (omega (arith, a.0, sh.ments), omega (arith, a.1, sh.ments))

    -- the first safepoint is x
    module _ (h : 0 < (at s.pieces k).safepoints.count) (x : ℕ) (ex : x ≡ safepoint T (at s.pieces k).safepoints.index) where
      first : InRange (interval T (at s.pieces k).interval).safepoints (at s.pieces k).safepoints.index
      first = (omega (arith, sh.safes), omega (arith, sh.safes))

      lo : (at s.pieces k).start ≤ use_point x
      lo = rw ex (sh.safes.starts (at s.pieces k).safepoints.index (omega arith) (omega arith))

      hi : use_point x ≤ (at s.pieces k).end
      hi = rw ex (sh.safes.ends (at s.pieces k).safepoints.index (omega arith) (omega arith))

      -- "Last use at or before Def s is Def s: keep": a mention point Def s ends its mention
      keeps : Greatest (def_point x) (points_of g (at s.pieces k)) (def_point x) → SafeOf T (at s.pieces k).interval (at s.pieces k).mentions (at s.pieces k).safepoints
      keeps o e l =
          let w = whose T ok (at s.pieces k) sh (def_point x) o.has in
          let p = at_points T ok (at s.pieces k) sh w.who w.inside in
          let odd : last_point T w.who ≡ def_point x = ⊎_elim
          (λ (v : def_point x ≡ first_point T w.who). elim (dec_lt (first_point T w.who) (last_point T w.who)) [ yes u ↦ absurd (omega (arith, p.even u)) | no u ↦ omega (arith, p.up) ])
          (λ (v : def_point x ≡ last_point T w.who). sym v) w.is in
          (w.who, w.inside, odd ∙ ap def_point ex)

      -- "Another last use": no mention point lies at Use s
      clear : (u : ℕ) → u ≢ def_point x → Greatest (def_point x) (points_of g (at s.pieces k)) u → Clear g (at s.pieces k) (use_point x)
      clear u n o m a =
          let p = at_points T ok (at s.pieces k) sh m a in
          let not-def : last_point T m ≢ def_point x = λ v. n (omega (arith, o.upto, o.greatest _ (has_last T ok (at s.pieces k) sh m a) (omega arith))) in
          let both : first_point T m ≢ use_point x = λ v. not-def (redefined T ok (at s.pieces k).interval sh.named (at s.pieces k).safepoints.index m first (mine m a) (v ∙ ap use_point ex) ∙ ap def_point (sym ex)) in
          (both, λ v. elim (dec_lt (first_point T m) (last_point T m)) [ yes b ↦ absurd (omega (arith, p.even b, p.near)) | no b ↦ both (omega (arith, p.up)) ])

      choice : (f : Option ℕ) → LastIs (def_point x) (points_of g (at s.pieces k)) f → Good (Inv g S NoOne) (keep_or_spill g s k x f)
      unfolding keep_or_spill
      choice None n =
          good_imp (Tailed g ok small S NoOne s k) (Inv g S NoOne) (go_on (split_if_any g s k (next_use (def_point x) (points_of g (at s.pieces k)))) (λ t. goes (spill g t k))) (λ t c. c.inv)
          (tail_spill g ok small S NoOne s k d.inv d.here (λ o. o) noslot (def_point x) (omega (arith, d.begins, lo)) (omega (arith, lo)) (λ m a. n _ (has_first T ok (at s.pieces k) sh m a)))
      choice (Some u) o =
          good_if (Inv g S NoOne) (eqb u (def_point x)) (goes s) (split_and_spill g s k (use_point x))
          (λ e. let q : u ≡ def_point x = eqb-true u (def_point x) e in settle_taken S k r s d (keeps (rw q at o)))
          (λ e. let n : u ≢ def_point x = eqb-false u (def_point x) e in
          good_imp (SpilledAt g S (But k) s k (use_point x)) (Inv g S NoOne) (split_and_spill g s k (use_point x))
          (λ t c.
          let w = whose T ok (at s.pieces k) sh u o.has in
          let st = c.stays w.who w.inside (omega (arith, (spans T ok (at s.pieces k) sh u w).2, o.upto)) in
          let d' = taken_cut S k r (use_point x) s t d hi c st in
          settle_taken S k r t d' (λ ref l. absurd (no_safe (at s.pieces k) (at t.pieces k) sh (d'.inv.core.shape k d'.here) c.same_interval c.same_start h (rw (← ex) st.1) (omega (arith, l)))))
          (spill_spec g ok small S (But k) s k d.inv d.here new noslot (inl (inr refl)) (use_point x) (omega (arith, d.begins, lo)) lo hi (clear u n o)))

      choice_ok : (f : Option ℕ) → LastIs (def_point x) (points_of g (at s.pieces k)) f → KeepOk g s k x f
      choice_ok None n = tail_spill_ok g ok small S NoOne s k d.inv d.here (λ o. o) noslot (def_point x) (omega (arith, d.begins, lo)) (omega (arith, lo)) (λ m a. n _ (has_first T ok (at s.pieces k) sh m a))
      choice_ok (Some u) o = λ n. spill_ok g ok small S (But k) s k d.inv d.here new noslot (inl (inr refl)) (use_point x) (omega (arith, d.begins, lo)) lo hi (clear u n o)

    fits : (at s.pieces k).safepoints.index + (at s.pieces k).safepoints.count ≤ length T.safepoints
    fits = omega (arith, sh.safes, (ok.intervals (at s.pieces k).interval sh.named).safepoints)

    long : length (safepoints_of g (at s.pieces k)) ≡ (at s.pieces k).safepoints.count
    long = length_part (at s.pieces k).safepoints T.safepoints fits

    -- the first safepoint is the first entry of the run
    first_is : (x : ℕ) (xs : List ℕ) → safepoints_of g (at s.pieces k) ≡ x ∷ xs → (0 < (at s.pieces k).safepoints.count) × (x ≡ safepoint T (at s.pieces k).safepoints.index)
    first_is x xs e =
        let n : length (x ∷ xs) ≡ length (safepoints_of g (at s.pieces k)) = sym (ap length e) in
        let h : 0 < (at s.pieces k).safepoints.count = omega (arith, long) in
        let i : (at s.pieces k).safepoints.index + 0 ≡ (at s.pieces k).safepoints.index = omega arith in
        (h, sym (ap (λ (ys : List ℕ). get_or ys 0 0) e) ∙ at_part (at s.pieces k).safepoints T.safepoints fits 0 h ∙ ap (safepoint T) i)

    -- its splits and spills are proper
    pub safepoint_ok : SafepointOk g s k
    safepoint_ok e = by (safepoints_of g (at s.pieces k)) refl
      where
        by : (xs : List ℕ) → safepoints_of g (at s.pieces k) ≡ xs → FirstOk g s k xs
        by [] e = tt
        by (x ∷ xs) e = let o = first_is x xs e in choice_ok o.0 x o.1 (last_use (def_point x) (points_of g (at s.pieces k))) (last_is (def_point x) (points_of g (at s.pieces k)))

    -- the whole step
    pub safepoint_keeps : Good (Inv g S NoOne) (handle_safepoints g s k)
    unfolding handle_safepoints first_safepoint
    safepoint_keeps =
        good_if (Inv g S NoOne) (in_register (at s.pieces k).place && (interval_of g (at s.pieces k)).reference) (first_safepoint g s k (safepoints_of g (at s.pieces k))) (goes s)
        (λ e. by (safepoints_of g (at s.pieces k)) refl)
        (λ e. settle_taken S k r s d (λ ref l. let z : ◌≡◌ {A = Bool} true false = sym (rw d.place ref) ∙ e in let o : ◌≡◌ {A = ℕ} 0 1 = cc in absurd (omega arith)))
      where
        by : (xs : List ℕ) → safepoints_of g (at s.pieces k) ≡ xs → Good (Inv g S NoOne) (first_safepoint g s k xs)
        by [] e = settle_taken S k r s d (λ ref l. let n : 0 ≡ length (safepoints_of g (at s.pieces k)) = sym (ap length e) in absurd (omega (arith, long)))
        by (x ∷ xs) e = let o = first_is x xs e in choice o.0 x o.1 (last_use (def_point x) (points_of g (at s.pieces k))) (last_is (def_point x) (points_of g (at s.pieces k)))
