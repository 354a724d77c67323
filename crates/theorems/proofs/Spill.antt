-- Lemma Split-and-spill: what it needs and what it leaves.
-- Assumes accepted tables.
use Rattle.std.specs.Prelude.{Option, None, Some}
use Prim.Native.Nat.{ℕ, ◌+◌, ◌≤◌, ◌<◌, min}
use mathlib.Core.Path.{◌≡◌, refl, sym, ap, ◌∙◌}
use mathlib.Core.Logic.{◌≢◌, ◌⊎◌, inl, inr, ⊎_elim}
use mathlib.Core.Bool.{Bool, true, false}
use mathlib.Core.List.{List, Memᴰ}
use native.Mathlib.Omega.{arith}
use native.Mathlib.Decide.{ℕ_discrete, dec_lt}
use borrow.Author.Tests.{ltb-true}
use lib.Dec.{ltb}
use lib.ListN.{length, get_or}
use Rattle.words.specs.Choose.{choose}
use Rattle.words.specs.Points.{within}
use Rattle.rules.specs.declared.Refusal.TheVariants.{NoRecord}
use Rattle.rules.specs.declared.Piece.{Piece}
use Rattle.rules.specs.declared.Place.TheVariants.{Nowhere, Slot}
use Rattle.rules.specs.declared.Strategy.{Strategy}
use Rattle.rules.specs.Tables.{Tables}
use Rattle.rules.specs.Accepted.{InRange, Accepted}
use Rattle.rules.specs.Uses.{next_use, last_use}
use Rattle.rules.specs.State.{Given, State, Outcome, goes, stops, go_on, with_place, points_of, enqueue}
use Rattle.rules.specs.Slots.{spill}
use Rattle.rules.specs.Split.{child, parent, staying_mentions, new_record, split, split_and_queue, split_if_any, candidate, or_from, pick, queue_tail, split_and_spill_by, split_and_spill}
use Rattle.rules.proofs.Keeps.{split_state}
use Rattle.theorems.specs.Invariant.{Good, at, first_point, last_point, Shape, Inv, Cut, Clear, SpilledAt}
use Rattle.theorems.specs.Proper.{SpillOk, IfAnyOk, SpillTailOk, SpillByOk, SpillAtOk}
use Rattle.theorems.proofs.RunLaws.{CutAt}
use Rattle.theorems.proofs.UseLaws.{Least, Greatest, NextIs, LastIs, next_is, last_is}
use Rattle.theorems.proofs.FragmentLaws.{within_true}
use Rattle.theorems.proofs.PieceLaws.{length_placed, at_placed, at_unplaced, length_split, at_old, at_parent, at_child}
use Rattle.theorems.proofs.TableLaws.{at_points, has_first, has_last, Whose, whose, spans, cut_mentions}
use Rattle.theorems.proofs.Changes.{Or, nowhere_slot, register_slot, inv_split, inv_enqueue, inv_leave, inv_settle}
use Rattle.theorems.proofs.Slots.{inv_spill}

-- ---- outcomes
pub good_on : (P Q : State → Type 0) (x : Outcome) (f : State → Outcome) → Good P x → ((t : State) → P t → Good Q (f t)) → Good Q (go_on x f)
good_on P Q (goes s) f h k = k s h
good_on P Q (stops a) f h k = tt

pub good_imp : (P Q : State → Type 0) (x : Outcome) → ((t : State) → P t → Q t) → Good P x → Good Q x
good_imp P Q (goes s) k h = k s h
good_imp P Q (stops a) k h = tt

pub good_if : (Q : State → Type 0) (b : Bool) (x y : Outcome) → (b ≡ true → Good Q x) → (b ≡ false → Good Q y) → Good Q (choose b x y)
good_if Q true x y h k = h refl
good_if Q false x y h k = k refl

-- a split is what it is where there is room
pub good_split : (g : Given) (s : State) (k p : ℕ) (Q : State → Type 0) → (length s.pieces < g.capacity → Q (split_state g s k p)) → Good Q (split g s k p)
unfolding split
good_split g s k p Q h = good_if Q (ltb (new_record s) g.capacity) (goes (split_state g s k p)) (stops (NoRecord k)) (λ e. h (ltb-true _ _ e)) (λ e. tt)

pub good_queue : (g : Given) (s : State) (k p : ℕ) (Q : State → Type 0) → (length s.pieces < g.capacity → Q (enqueue (split_state g s k p) (length s.pieces))) → Good Q (split_and_queue g s k p)
unfolding split_and_queue
good_queue g s k p Q h =
    good_on (λ t. Q (enqueue t (new_record s))) Q (split g s k p) (λ t. goes (enqueue t (new_record s))) (good_split g s k p (λ t. Q (enqueue t (new_record s))) h) (λ t k. k)

-- ---- a strategy's pick lies in from..to
pub pick_within : (y : Strategy) (a b : ℕ) → a ≤ b → (a ≤ pick y a b) × (pick y a b ≤ b)
unfolding pick
pick_within y a b h = go (candidate a b y)
  where
    by : (x : ℕ) (c : Bool) → within a b x ≡ c → (a ≤ choose c x a) × (choose c x a ≤ b)
    by x true e = within_true a b x e
    by x false e = (omega arith, h)

    go : (z : Option ℕ) → (a ≤ or_from a b z) × (or_from a b z ≤ b)
    go None = (omega arith, h)
    go (Some x) = by x (within a b x) refl

module _ (g : Given) (ok : Accepted g.tables) (small : g.capacity ≤ 16384) where
  abbrev T : Tables
  T = g.tables

  abbrev ms : List ℕ
  ms = g.tables.mentions

  abbrev sp : List ℕ
  sp = g.tables.safepoints

  -- all mentions of q lie above p
  abbrev pub Above : Piece → ℕ → Type 0
  Above q p = (i : ℕ) → InRange q.mentions i → p < first_point T i

  -- ---- the mentions of record j, all above p, are cut off and queued
  pub record TailCut (l : ℕ) (X : ℕ → Type 0) (s : State) (j p : ℕ) (t : State) : Type 0 where
    pub inv : Inv g l X t
    pub grows : length s.pieces ≤ length t.pieces
    pub others : (m : ℕ) → m < length s.pieces → m ≢ j → at t.pieces m ≡ at s.pieces m
    pub same_interval : (at t.pieces j).interval ≡ (at s.pieces j).interval
    pub same_start : (at t.pieces j).start ≡ (at s.pieces j).start
    pub same_place : (at t.pieces j).place ≡ (at s.pieces j).place
    pub empty : (at t.pieces j).mentions.count ≡ 0
    pub fresh : (m : ℕ) → length s.pieces ≤ m → m < length t.pieces → (at t.pieces m).place ≡ Nowhere
    pub active : t.active ≡ s.active
    pub homes : t.homes ≡ s.homes

  module _ (l : ℕ) (X : ℕ → Type 0) (s : State) (j : ℕ) (i : Inv g l X s) (x : X j) (h : j < length s.pieces) (new : X (length s.pieces) → ⊥)
      (p : ℕ) (b : l ≤ p) (st : (at s.pieces j).start ≤ p) (ab : Above (at s.pieces j) p) where
    sh : Shape T (at s.pieces j)
    sh = i.core.shape j h

    cut_none : ((y : ℕ) → Memᴰ y (points_of g (at s.pieces j)) → y < p) → TailCut l X s j p s
    cut_none n =
        record {
          inv = i;
          grows = omega arith;
          others = λ m a d. refl;
          same_interval = refl;
          same_start = refl;
          same_place = refl;
          empty = elim (dec_lt 0 (at s.pieces j).mentions.count) [
            | yes d ↦ let r : InRange (at s.pieces j).mentions (at s.pieces j).mentions.index = (omega arith, omega arith) in absurd (omega (arith, ab _ r, n _ (has_first T ok (at s.pieces j) sh _ r)))
            | no d ↦ omega arith
          ];
          fresh = λ m a d. absurd (omega arith);
          active = refl;
          homes = refl;
        }

    module _ (y : ℕ) (n : Least p (points_of g (at s.pieces j)) y) where
      from : Whose T ok (at s.pieces j) sh y
      from = whose T ok (at s.pieces j) sh y n.has

      lies : ((at s.pieces j).start ≤ y) × (y ≤ (at s.pieces j).end) × (first_point T from.who ≤ y) × (y ≤ last_point T from.who)
      lies = spans T ok (at s.pieces j) sh y from

      over : p < y
      over = omega (arith, ab from.who from.inside, lies.2)

      first : (m : ℕ) → InRange (at s.pieces j).mentions m → y ≤ first_point T m
      first m r = n.least _ (has_first T ok (at s.pieces j) sh m r) (omega (arith, ab m r))

      cm : CutAt (first_point T) y (at s.pieces j).mentions.index ((at s.pieces j).mentions.index + (at s.pieces j).mentions.count) ((at s.pieces j).mentions.index + staying_mentions ms sp (at s.pieces j) y)
      cm = cut_mentions T ok (at s.pieces j) sh y

      none_left : staying_mentions ms sp (at s.pieces j) y ≡ 0
      none_left = elim (dec_lt 0 (staying_mentions ms sp (at s.pieces j) y)) [
        | yes d ↦ absurd (omega (arith, cm.below (at s.pieces j).mentions.index (omega arith) (omega arith), first (at s.pieces j).mentions.index (omega arith, omega (arith, cm.high))))
        | no d ↦ omega arith
      ]

      proper : Cut g (at s.pieces j) y
      proper = record { above = omega (arith, over); below = lies.1; whole = λ m r k. absurd (omega (arith, first m r)) }

      cut_some : length s.pieces < g.capacity → TailCut l X s j p (enqueue (split_state g s j y) (length s.pieces))
      unfolding enqueue
      cut_some room =
          let longer = length_split ms sp s.pieces j y in
          let par = at_parent ms sp s.pieces j y h in
          let chi = at_child ms sp s.pieces j y in
          record {
            inv = inv_enqueue g ok l X (split_state g s j y) (length s.pieces) (inv_split g ok l X s j y i h proper (inl x) room) new (omega arith) (omega arith) (rw chi refl) (rw chi (omega (arith, over)));
            grows = omega arith;
            others = λ m a d. at_old ms sp s.pieces j y m a d;
            same_interval = rw par refl;
            same_start = rw par refl;
            same_place = rw par refl;
            empty = rw par none_left;
            fresh = λ m a d. let e : m ≡ length s.pieces = omega arith in rw (e, chi) refl;
            active = refl;
            homes = refl;
          }

    pub cut_tail : Good (TailCut l X s j p) (split_if_any g s j (next_use p (points_of g (at s.pieces j))))
    unfolding split_if_any
    cut_tail = by (next_use p (points_of g (at s.pieces j))) (next_is p (points_of g (at s.pieces j)))
      where
        by : (f : Option ℕ) → NextIs p (points_of g (at s.pieces j)) f → Good (TailCut l X s j p) (split_if_any g s j f)
        by None n = cut_none n
        by (Some y) n = good_queue g s j y (TailCut l X s j p) (cut_some y n)

    pub cut_ok : IfAnyOk g s j (next_use p (points_of g (at s.pieces j)))
    cut_ok = by (next_use p (points_of g (at s.pieces j))) (next_is p (points_of g (at s.pieces j)))
      where
        by : (f : Option ℕ) → NextIs p (points_of g (at s.pieces j)) f → IfAnyOk g s j f
        by None n = tt
        by (Some y) n = let c = proper y n in record { here = h; above = c.above; below = c.below }

  -- ---- and record j is spilled, before or after
  pub record Tailed (l : ℕ) (X : ℕ → Type 0) (s : State) (j : ℕ) (t : State) : Type 0 where
    pub inv : Inv g l X t
    pub grows : length s.pieces ≤ length t.pieces
    pub others : (m : ℕ) → m < length s.pieces → m ≢ j → at t.pieces m ≡ at s.pieces m
    pub same_interval : (at t.pieces j).interval ≡ (at s.pieces j).interval
    pub same_start : (at t.pieces j).start ≡ (at s.pieces j).start
    pub slot : ℕ
    pub spilt : (at t.pieces j).place ≡ Slot slot
    pub fresh : (m : ℕ) → length s.pieces ≤ m → m < length t.pieces → (at t.pieces m).place ≡ Nowhere
    pub active : t.active ≡ s.active

  module _ (l : ℕ) (X : ℕ → Type 0) (s : State) (j : ℕ) (i : Inv g l (Or X j) s) (h : j < length s.pieces) (new : X (length s.pieces) → ⊥)
      (n : (t : ℕ) → (at s.pieces j).place ≢ Slot t) (p : ℕ) (b : l ≤ p) (st : (at s.pieces j).start ≤ p) (ab : Above (at s.pieces j) p) where
    unused : Or X j (length s.pieces) → ⊥
    unused (inl y) = new y
    unused (inr e) = omega arith

    -- a spilled record without mentions is as its place asks
    settle : (t : State) (z : ℕ) → Inv g l (Or X j) t → (at t.pieces j).place ≡ Slot z → (at t.pieces j).mentions.count ≡ 0 → get_or t.homes (at t.pieces j).interval None ≡ Some z → Inv g l X t
    settle t z k e o d = inv_settle g ok l X t j k (rw e (o, d)) (λ r f. register_slot (at t.pieces j).place r z f e)

    -- spilled first
    pub spill_tail : Good (Tailed l X s j) (queue_tail g (spill g s j) j p)
    unfolding queue_tail
    spill_tail =
        let r = inv_spill g ok l (Or X j) s j i (inr refl) h n in
        let o = r.1 in
        let len : length (spill g s j).pieces ≡ length s.pieces = ap length o.pieces ∙ length_placed s.pieces j (Slot o.slot) in
        let here : at (spill g s j).pieces j ≡ with_place (Slot o.slot) (at s.pieces j) = ap (λ (ps : List Piece). at ps j) o.pieces ∙ at_placed s.pieces j (Slot o.slot) h in
        good_imp (TailCut l (Or X j) (spill g s j) j p) (Tailed l X s j) (split_if_any g (spill g s j) j (next_use p (points_of g (at (spill g s j).pieces j))))
        (λ t c. record {
          inv = settle t o.slot c.inv (c.same_place ∙ rw here refl) c.empty (rw (c.homes, c.same_interval, here) o.home);
          grows = omega (arith, c.grows);
          others = λ m a d. c.others m (omega arith) d ∙ ap (λ (ps : List Piece). at ps m) o.pieces ∙ at_unplaced s.pieces j (Slot o.slot) m d;
          same_interval = c.same_interval ∙ rw here refl;
          same_start = c.same_start ∙ rw here refl;
          slot = o.slot;
          spilt = c.same_place ∙ rw here refl;
          fresh = λ m a d. c.fresh m (omega arith) d;
          active = c.active ∙ o.active;
        })
        (cut_tail l (Or X j) (spill g s j) j r.0 (inr refl) (omega arith) (rw len unused) p b (rw here st) (rw here ab))

    pub spill_tail_ok : SpillTailOk g s j p
    spill_tail_ok =
        let r = inv_spill g ok l (Or X j) s j i (inr refl) h n in
        let o = r.1 in
        let len : length (spill g s j).pieces ≡ length s.pieces = ap length o.pieces ∙ length_placed s.pieces j (Slot o.slot) in
        let here : at (spill g s j).pieces j ≡ with_place (Slot o.slot) (at s.pieces j) = ap (λ (ps : List Piece). at ps j) o.pieces ∙ at_placed s.pieces j (Slot o.slot) h in
        (record { here = h; unspilled = n }, cut_ok l (Or X j) (spill g s j) j r.0 (inr refl) (omega arith) (rw len unused) p b (rw here st) (rw here ab))

    -- cut first
    pub tail_spill_ok : IfAnyOk g s j (next_use p (points_of g (at s.pieces j))) × Good (λ t. SpillOk t j) (split_if_any g s j (next_use p (points_of g (at s.pieces j))))
    tail_spill_ok = (
      cut_ok l (Or X j) s j i (inr refl) h unused p b st ab,
      good_imp (TailCut l (Or X j) s j p) (λ t. SpillOk t j) (split_if_any g s j (next_use p (points_of g (at s.pieces j)))) (λ t c. record { here = omega (arith, c.grows); unspilled = λ z e. n z (sym c.same_place ∙ e) })
          (cut_tail l (Or X j) s j i (inr refl) h unused p b st ab),
    )

    pub tail_spill : Good (Tailed l X s j) (go_on (split_if_any g s j (next_use p (points_of g (at s.pieces j)))) (λ t. goes (spill g t j)))
    tail_spill =
        good_on (TailCut l (Or X j) s j p) (Tailed l X s j) (split_if_any g s j (next_use p (points_of g (at s.pieces j)))) (λ t. goes (spill g t j))
        (cut_tail l (Or X j) s j i (inr refl) h unused p b st ab)
        (λ t c.
        let k : j < length t.pieces = omega (arith, c.grows) in
        let r = inv_spill g ok l (Or X j) t j c.inv (inr refl) k (λ z e. n z (sym c.same_place ∙ e)) in
        let o = r.1 in
        let len : length (spill g t j).pieces ≡ length t.pieces = ap length o.pieces ∙ length_placed t.pieces j (Slot o.slot) in
        let here : at (spill g t j).pieces j ≡ with_place (Slot o.slot) (at t.pieces j) = ap (λ (ps : List Piece). at ps j) o.pieces ∙ at_placed t.pieces j (Slot o.slot) k in
        let there : (m : ℕ) → m ≢ j → at (spill g t j).pieces m ≡ at t.pieces m = λ m d. ap (λ (ps : List Piece). at ps m) o.pieces ∙ at_unplaced t.pieces j (Slot o.slot) m d in
        record {
          inv = settle (spill g t j) o.slot r.0 (rw here refl) (rw here c.empty) (rw here o.home);
          grows = omega (arith, c.grows);
          others = λ m a d. there m d ∙ c.others m a d;
          same_interval = rw here c.same_interval;
          same_start = rw here c.same_start;
          slot = o.slot;
          spilt = rw here refl;
          fresh = λ m a d. rw (there m (λ e. omega arith)) (c.fresh m a (omega arith));
          active = o.active ∙ c.active;
        })

  -- ---- the whole of split-and-spill of record c at p: p lies in it and is no mention point of it, it is neither spilled nor queued
  module _ (l : ℕ) (X : ℕ → Type 0) (s : State) (c : ℕ) (i : Inv g l X s) (h : c < length s.pieces) (new : (m : ℕ) → length s.pieces ≤ m → X m → ⊥)
      (n : (t : ℕ) → (at s.pieces c).place ≢ Slot t) (q : X c ⊎ ((at s.pieces c).place ≢ Nowhere))
      (p : ℕ) (b : l ≤ p) (lo : (at s.pieces c).start ≤ p) (hi : p ≤ (at s.pieces c).end) (clear : Clear g (at s.pieces c) p) where
    shc : Shape T (at s.pieces c)
    shc = i.core.shape c h

    -- no last use: the record itself is spilled
    spill_none : ((y : ℕ) → Memᴰ y (points_of g (at s.pieces c)) → p < y) → Good (SpilledAt g l X s c p) (queue_tail g (spill g s c) c p)
    spill_none f =
        let ab : Above (at s.pieces c) p = λ m r. f _ (has_first T ok (at s.pieces c) shc m r) in
        good_imp (Tailed l X s c) (SpilledAt g l X s c p) (queue_tail g (spill g s c) c p)
        (λ t r. record {
          inv = r.inv;
          grows = r.grows;
          others = r.others;
          same_interval = r.same_interval;
          same_start = r.same_start;
          way = inl (r.slot, r.spilt);
          stays = λ m a d. absurd (omega (arith, ab m a));
          fresh = λ m a d. inr (r.fresh m a d);
          active = r.active;
        })
        (spill_tail l X s c (inv_leave g ok l X s c i q) h (new _ (omega arith)) n p b lo ab)

    -- the last use u is below p, and d lies above it: there is no mention point from u + 1 to p
    module _ (u : ℕ) (k : Greatest p (points_of g (at s.pieces c)) u) (d : ℕ) (a : u + 1 ≤ d) (e : d ≤ p) where
      gap_first : (m : ℕ) → InRange (at s.pieces c).mentions m → first_point T m ≤ p → first_point T m < d
      gap_first m r o = omega (arith, k.greatest _ (has_first T ok (at s.pieces c) shc m r) o)

      gap_last : (m : ℕ) → InRange (at s.pieces c).mentions m → last_point T m ≤ p → last_point T m < d
      gap_last m r o = omega (arith, k.greatest _ (has_last T ok (at s.pieces c) shc m r) o)

      proper_d : Cut g (at s.pieces c) d
      proper_d =
          record {
            above = omega (arith, (spans T ok (at s.pieces c) shc u (whose T ok (at s.pieces c) shc u k.has)).0);
            below = omega arith;
            whole = λ m r o. gap_last m r (let f = k.greatest _ (has_first T ok (at s.pieces c) shc m r) (omega arith) in let w = (at_points T ok (at s.pieces c) shc m r).near in omega arith);
          }

      clear_d : Clear g (at s.pieces c) d
      clear_d m r = (λ o. omega (arith, gap_first m r (omega arith)), λ o. omega (arith, gap_last m r (omega arith)))

      over_d : Above (child ms sp (at s.pieces c) d) p
      over_d m r =
          let cm = cut_mentions T ok (at s.pieces c) shc d in
          let r' : InRange (at s.pieces c).mentions m = (omega (arith, r.0, cm.low), omega (arith, r.1, cm.high)) in
          elim (dec_lt p (first_point T m)) [ yes v ↦ v | no v ↦ absurd (omega (arith, gap_first m r' (omega arith), cm.above m r.0 r'.1)) ]

      spill_some : length s.pieces < g.capacity → Good (SpilledAt g l X s c p) (queue_tail g (spill g (split_state g s c d) (length s.pieces)) (length s.pieces) p)
      spill_some room =
          let longer = length_split ms sp s.pieces c d in
          let par = at_parent ms sp s.pieces c d h in
          let chi = at_child ms sp s.pieces c d in
          good_imp (Tailed l X (split_state g s c d) (length s.pieces)) (SpilledAt g l X s c p) (queue_tail g (spill g (split_state g s c d) (length s.pieces)) (length s.pieces) p)
          (λ t r.
          let kept : at t.pieces c ≡ parent ms sp (at s.pieces c) d = r.others c (omega arith) (λ o. omega arith) ∙ par in
          let stay : ((at t.pieces c).place ≡ (at s.pieces c).place) × ((at t.pieces c).end < p) = rw kept (refl, omega (arith, proper_d.above)) in
          record {
            inv = r.inv;
            grows = omega (arith, r.grows);
            others = λ m x y. r.others m (omega arith) (λ o. omega arith) ∙ at_old ms sp s.pieces c d m x y;
            same_interval = rw kept refl;
            same_start = rw kept refl;
            way = inr stay;
            stays = λ m x y. stay;
            fresh = λ m x y. elim (ℕ_discrete m (length s.pieces)) [ yes o ↦ inl (r.slot, rw o r.spilt) | no o ↦ inr (r.fresh m (omega arith) y) ];
            active = r.active;
          })
          (spill_tail l X (split_state g s c d) (length s.pieces) (inv_split g ok l X s c d i h proper_d (inr clear_d) room) (omega arith) (rw longer (new (length s.pieces + 1) (omega arith)))
          (λ z o. nowhere_slot _ z refl (rw chi at o)) p b (rw chi e) (rw chi over_d))

      spill_some_ok : length s.pieces < g.capacity → SpillTailOk g (split_state g s c d) (length s.pieces) p
      spill_some_ok room =
          let longer = length_split ms sp s.pieces c d in
          let chi = at_child ms sp s.pieces c d in
          spill_tail_ok l X (split_state g s c d) (length s.pieces) (inv_split g ok l X s c d i h proper_d (inr clear_d) room) (omega arith) (rw longer (new (length s.pieces + 1) (omega arith)))
          (λ z o. nowhere_slot _ z refl (rw chi at o)) p b (rw chi e) (rw chi over_d)

    not_p : (u : ℕ) → Greatest p (points_of g (at s.pieces c)) u → u ≢ p
    not_p u k o =
        let w = whose T ok (at s.pieces c) shc u k.has in
        let f = clear w.who w.inside in
        ⊎_elim (λ (v : u ≡ first_point T w.who). f.0 (sym v ∙ o)) (λ (v : u ≡ last_point T w.who). f.1 (sym v ∙ o)) w.is

    pub spill_spec : Good (SpilledAt g l X s c p) (split_and_spill g s c p)
    unfolding split_and_spill split_and_spill_by
    spill_spec = by (last_use p (points_of g (at s.pieces c))) (last_is p (points_of g (at s.pieces c)))
      where
        by : (f : Option ℕ) → LastIs p (points_of g (at s.pieces c)) f → Good (SpilledAt g l X s c p) (split_and_spill_by g s c p f)
        by None k = spill_none k
        by (Some u) k =
            let o : u ≢ p = not_p u k in
            let m : min (u + 1) p ≡ u + 1 = omega (arith, k.upto) in
            let v = pick_within g.mode.strategy (u + 1) p (omega (arith, k.upto)) in
            rw m
            (good_on (λ t. (t ≡ split_state g s c (pick g.mode.strategy (u + 1) p)) × (length s.pieces < g.capacity)) (SpilledAt g l X s c p) (split g s c (pick g.mode.strategy (u + 1) p))
            (λ t. queue_tail g (spill g t (new_record s)) (new_record s) p)
            (good_split g s c (pick g.mode.strategy (u + 1) p) (λ t. (t ≡ split_state g s c (pick g.mode.strategy (u + 1) p)) × (length s.pieces < g.capacity)) (λ r. (refl, r)))
            (λ t r. rw r.0 (spill_some u k (pick g.mode.strategy (u + 1) p) v.0 v.1 r.1)))

    pub spill_ok : SpillAtOk g s c p
    spill_ok = by (last_use p (points_of g (at s.pieces c))) (last_is p (points_of g (at s.pieces c)))
      where
        by : (f : Option ℕ) → LastIs p (points_of g (at s.pieces c)) f → SpillByOk g s c p f
        by None k = spill_tail_ok l X s c (inv_leave g ok l X s c i q) h (new _ (omega arith)) n p b lo (λ m r. k _ (has_first T ok (at s.pieces c) shc m r))
        by (Some u) k =
            let o : u ≢ p = not_p u k in
            let m : min (u + 1) p ≡ u + 1 = omega (arith, k.upto) in
            let v = pick_within g.mode.strategy (u + 1) p (omega (arith, k.upto)) in
            let w = proper_d u k (pick g.mode.strategy (u + 1) p) v.0 v.1 in
            rw m (
              record { here = h; above = w.above; below = w.below },
              good_split g s c (pick g.mode.strategy (u + 1) p) (λ t. SpillTailOk g t (new_record s) p) (spill_some_ok u k (pick g.mode.strategy (u + 1) p) v.0 v.1),
            )

    -- what it leaves, and that it is proper
    pub spill_both : Good (SpilledAt g l X s c p) (split_and_spill g s c p) × SpillAtOk g s c p
    spill_both = (spill_spec, spill_ok)
