-- At the end of a run: the invariant, and nothing queued, give the placement rules 1 to 7 of the records written.
-- Assumes accepted tables.
use Rattle.std.specs.Prelude.{None, Some}
use Prim.Native.Nat.{ℕ, zero, suc, ◌+◌, ◌*◌, ◌^◌, ◌≤◌, ◌<◌}
use mathlib.Core.Path.{◌≡◌, refl, sym, ap, ◌∙◌}
use mathlib.Core.Logic.{◌≢◌, ◌⊎◌, inl, inr, ⊎_elim}
use mathlib.Core.Bool.{true}
use mathlib.Core.List.Memᴰ
use mathlib.Core.List.{List, [], ◌∷◌, ◌++◌}
use native.Mathlib.Omega.{arith}
use native.Mathlib.Decide.{ℕ_discrete, dec_lt}
use lib.ListN.{length, get_or}
use Rattle.words.specs.Points.{def_point}
use Rattle.words.specs.Packed.{size_of, interval_count, record_at, record_in, RecordFits}
use Rattle.words.specs.declared.Record.{Record}
use Rattle.words.proofs.Packed.{record_back}
use Rattle.rules.specs.declared.Piece.{Piece}
use Rattle.rules.specs.declared.Place.{Place}
use Rattle.rules.specs.declared.Place.TheVariants.{Nowhere, Register, Slot}
use Rattle.rules.specs.Tables.{Tables}
use Rattle.rules.specs.Accepted.{InRange, interval, safepoint, Accepted}
use Rattle.rules.specs.State.{Given, State}
use Rattle.rules.specs.Call.{kind_of, number_of, record_for, pack_records}
use Rattle.rules.specs.Placement.{Claim, rec, Holds, InRegister, InSlot, IsPointOf, Rule1, Rule2, Rule3, Rule4, Rule5, Rule6, Rule7}
use Rattle.rules.specs.Checker.{HoldBelow}
use Rattle.theorems.specs.Invariant.{NoOne, at, first_point, last_point, use_at, Shape, InRegOf, Held, Inv}
use Rattle.theorems.proofs.RunLaws.{run_has}
use Rattle.theorems.proofs.TableLaws.{points_at, mentions_rise, safepoints_rise}
use Rattle.theorems.proofs.Defined.{in_bounds}

-- ---- records are read back from the words written
pub record Fits (q : Piece) : Type 0 where
  pub row : RecordFits (record_for q)
  pub number : number_of q.place < 2 ^ 16
  pub first : q.start < 2 ^ 16
  pub last : q.end < 2 ^ 16

pub record_is : (ps : List Piece) (rest : List ℕ) (k : ℕ) → k < length ps → Fits (at ps k) → record_at (pack_records ps ++ rest) k ≡ record_for (at ps k)
unfolding pack_records
record_is [] rest k h f = absurd (omega arith)
record_is (q ∷ ps) rest zero h f = record_back (record_for q) f.row f.number f.first f.last
record_is (q ∷ ps) rest (suc k) h f =
    let e : suc k * 2 ≡ suc (suc (k * 2)) = omega arith in
    let d : suc k * 2 + 1 ≡ suc (suc (k * 2 + 1)) = omega arith in
    let ws = pack_records (q ∷ ps) ++ rest in
    ap (λ (n : ℕ). record_in (get_or ws n 0) (get_or ws (suc k * 2 + 1) 0)) e ∙ ap (λ (n : ℕ). record_in (get_or ws (suc (suc (k * 2))) 0) (get_or ws n 0)) d ∙ record_is ps rest k (omega arith) f

module _ (g : Given) (ok : Accepted g.tables) (l : ℕ) (s : State) (i : Inv g l NoOne s) (done : s.queue ≡ []) where
  abbrev T : Tables
  T = g.tables

  abbrev ps : List Piece
  ps = s.pieces

  here : (k : ℕ) → k < length s.pieces → Held T l s.queue s.active s.homes k (at s.pieces k) (at s.pieces k).place
  here k h = i.held k h (λ y. y)

  shape : (k : ℕ) → k < length s.pieces → Shape T (at s.pieces k)
  shape k h = i.core.shape k h

  in_register_lem : (k r : ℕ) → k < length s.pieces → (at s.pieces k).place ≡ Register r → InRegOf T l s.active k (at s.pieces k).interval (at s.pieces k).start (at s.pieces k).end (at s.pieces k).mentions (at s.pieces k).safepoints r
  in_register_lem k r h e = rw e at (here k h)

  in_slot : (k t : ℕ) → k < length s.pieces → (at s.pieces k).place ≡ Slot t → ((at s.pieces k).mentions.count ≡ 0) × (get_or s.homes (at s.pieces k).interval None ≡ Some t)
  in_slot k t h e = rw e at (here k h)

  -- every record has its place
  nowhere : (k : ℕ) → k < length s.pieces → (at s.pieces k).place ≢ Nowhere
  nowhere k h e = let o = rw (e, done) at (here k h) in Memᴰ.not-nil o.1

  pub fits : (k : ℕ) → k < length s.pieces → Fits (at s.pieces k)
  fits k h =
      let b = in_bounds g ok l s i k h in
      let n = by (at s.pieces k).place refl in
      record {
        row = record { kind = n.0; interval = omega (arith, b.interval, ok.limits.intervals); spare = omega arith };
        number = n.1;
        first = omega (arith, b.ordered, b.width);
        last = omega (arith, b.width);
      }
    where
      by : (w : Place) → (at s.pieces k).place ≡ w → (kind_of w < 4) × (number_of w < 2 ^ 16)
      by Nowhere e = (omega arith, omega arith)
      by (Register r) e = (omega arith, omega (arith, (in_bounds g ok l s i k h).register r e, ok.limits.registers))
      by (Slot t) e = (omega arith, omega (arith, (in_bounds g ok l s i k h).slot t e))

  -- ---- a claim that holds these records
  module _ (c : Claim) (count : c.count ≡ length s.pieces) (total : c.total ≡ s.total) (is : (k : ℕ) → k < length s.pieces → record_at c.words k ≡ record_for (at s.pieces k)) where
    inside : (k : ℕ) → k < c.count → k < length s.pieces
    inside k h = omega arith

    claimed : (k : ℕ) → k < length s.pieces → k < c.count
    claimed k h = omega arith

    -- what the claim says of record k, field by field
    record Reads (k : ℕ) : Type 0 where
      pub kind : (record_at c.words k).kind ≡ kind_of (at s.pieces k).place
      pub interval : (record_at c.words k).interval ≡ (at s.pieces k).interval
      pub spare : (record_at c.words k).spare ≡ 0
      pub number : (record_at c.words k).number ≡ number_of (at s.pieces k).place
      pub first : (record_at c.words k).first ≡ (at s.pieces k).start
      pub last : (record_at c.words k).last ≡ (at s.pieces k).end

    reads : (k : ℕ) → k < length s.pieces → Reads k
    reads k h =
        let e = is k h in
        record { kind = ap (λ (x : Record). x.kind) e; interval = ap (λ (x : Record). x.interval) e; spare = ap (λ (x : Record). x.spare) e; number = ap (λ (x : Record). x.number) e; first = ap (λ (x : Record). x.first) e; last = ap (λ (x : Record). x.last) e }

    kinds : (w : Place) → w ≢ Nowhere → (kind_of w ≡ 1) ⊎ (kind_of w ≡ 2)
    kinds Nowhere n = absurd (n refl)
    kinds (Register r) n = inl refl
    kinds (Slot t) n = inr refl

    -- a register record, and a slot record, of the claim
    record OfRegister (k : ℕ) : Type 0 where
      pub here : k < length s.pieces
      pub number : ℕ
      pub place : (at s.pieces k).place ≡ Register number
      pub says : (record_at c.words k).number ≡ number

    of_register : (k : ℕ) → InRegister T c k → OfRegister k
    of_register k o =
        let h = inside k o.0 in
        let e : kind_of (at s.pieces k).place ≡ 1 = sym (ap (λ (x : Record). x.kind) (is k h)) ∙ o.1 in
        let r = by (at s.pieces k).place e in
        record { here = h; number = r.0; place = r.1; says = ap (λ (x : Record). x.number) (is k h) ∙ ap number_of r.1 }
      where
        by : (w : Place) → kind_of w ≡ 1 → (r : ℕ) × (w ≡ Register r)
        by Nowhere e = absurd (omega arith)
        by (Register r) e = (r, refl)
        by (Slot t) e = absurd (omega arith)

    record OfSlot (k : ℕ) : Type 0 where
      pub here : k < length s.pieces
      pub number : ℕ
      pub place : (at s.pieces k).place ≡ Slot number
      pub says : (record_at c.words k).number ≡ number
      pub named : (record_at c.words k).interval ≡ (at s.pieces k).interval
      pub home : get_or s.homes (at s.pieces k).interval None ≡ Some number

    of_slot : (k : ℕ) → InSlot T c k → OfSlot k
    of_slot k o =
        let h = inside k o.0 in
        let e : kind_of (at s.pieces k).place ≡ 2 = sym (ap (λ (x : Record). x.kind) (is k h)) ∙ o.1 in
        let r = by (at s.pieces k).place e in
        record { here = h; number = r.0; place = r.1; says = ap (λ (x : Record). x.number) (is k h) ∙ ap number_of r.1; named = ap (λ (x : Record). x.interval) (is k h); home = (in_slot k r.0 h r.1).1 }
      where
        by : (w : Place) → kind_of w ≡ 2 → (t : ℕ) × (w ≡ Slot t)
        by Nowhere e = absurd (omega arith)
        by (Register r) e = absurd (omega arith)
        by (Slot t) e = (t, refl)

    rule1 : Rule1 T c
    rule1 =
        record {
          packed = λ k h. let w = reads k (inside k h) in (rw w.kind (kinds (at s.pieces k).place (nowhere k (inside k h))), w.spare, rw (w.first, w.last) (shape k (inside k h)).fits);
          names = λ k h. rw (reads k (inside k h)).interval (shape k (inside k h)).named;
          stays = λ k h p. let w = reads k (inside k h) in rw (w.first, w.last, w.interval) (λ o. let q = shape k (inside k h) in (omega (arith, q.begins, o.0), omega (arith, q.stops, o.1)));
          covers = λ v h p o. let r = i.core.parts.cover v p h o.0 o.1 in let w = reads r.0 r.1 in (r.0, claimed r.0 r.1, w.interval ∙ r.2, rw (w.first, w.last) (r.3, r.4));
          once = λ j k a b e p u v.
              let x = reads j (inside j a) in
              let y = reads k (inside k b) in
              i.core.parts.apart j (inside j a) k (inside k b) p (sym x.interval ∙ e ∙ y.interval) (rw (x.first, x.last) at u) (rw (y.first, y.last) at v);
        }

    rule2 : Rule2 T c
    rule2 =
        record {
          holds = λ v h j a.
              let w = points_at T ok v h j a in
              let x = (ok.mentions v h).inside j a (first_point T j) w.first in
              go v h j a (i.core.parts.cover v (first_point T j) h x.0 x.1);
        }
      where
        reg : (k : ℕ) → k < length s.pieces → 0 < (at s.pieces k).mentions.count → kind_of (at s.pieces k).place ≡ 1
        reg k h m = by (at s.pieces k).place refl
          where
            by : (w : Place) → (at s.pieces k).place ≡ w → kind_of w ≡ 1
            by Nowhere e = absurd (nowhere k h e)
            by (Register r) e = refl
            by (Slot t) e = absurd (omega (arith, (in_slot k t h e).0))

        go : (v : ℕ) (h : v < interval_count T.intervals) (j : ℕ) → InRange (interval T v).mentions j
            → (k : ℕ) × (k < length s.pieces) × ((at s.pieces k).interval ≡ v) × ((at s.pieces k).start ≤ first_point T j) × (first_point T j ≤ (at s.pieces k).end)
            → (k : ℕ) × InRegister T c k × ((rec T c k).interval ≡ v) × ((p : ℕ) → IsPointOf T c j p → Holds T c k p)
        go v h j a (k, b, e, lo, hi) =
            let q = shape k b in
            let w = points_at T ok v h j a in
            let m = run_has (mentions_rise T ok (at s.pieces k).interval q.named) q.ments j (rw e a.0) (rw e a.1) lo hi in
            let last = q.ments.ends j m.0 m.1 in (
              k,
              (claimed k b, (reads k b).kind ∙ reg k b (omega (arith, m.0, m.1))),
              (reads k b).interval ∙ e,
              λ p o. rw ((reads k b).first, (reads k b).last) (⊎_elim (λ (x : p ≡ first_point T j). (omega arith, omega arith)) (λ (x : p ≡ last_point T j). (omega (arith, w.up), omega arith)) (w.is p o)),
            )

    rule3 : Rule3 T c
    rule3 =
        record {
          in_class = λ k o. let r = of_register k o in let u = (in_register_lem k r.number r.here r.place).usable in rw (r.says, (reads k r.here).interval) (u.from, u.below);
          not_scratch = λ k o. let r = of_register k o in let u = (in_register_lem k r.number r.here r.place).usable in rw (r.says, (reads k r.here).interval) u.not_scratch;
        }

    rule4 : Rule4 T c
    rule4 =
        record {
          apart = λ j k a b e p.
              let x = of_register j a in
              let y = of_register k b in
              let n : x.number ≡ y.number = sym x.says ∙ e ∙ y.says in
              let rj = reads j x.here in
              let rk = reads k y.here in
              rw (rj.first, rj.last, rk.first, rk.last) (λ u v. i.alone j x.here (λ z. z) k y.here (λ z. z) x.number p x.place (y.place ∙ ap Register (sym n)) u v);
        }

    rule5 : Rule5 T c
    rule5 =
        record {
          apart = λ k o f.
              let r = of_register k o in
              rw r.says (λ a p. rw ((reads k r.here).first, (reads k r.here).last) (λ u v. (in_register_lem k r.number r.here r.place).unfixed f a p u.0 u.1 v.0 v.1));
        }

    rule6 : Rule6 T c
    rule6 =
        record {
          one = λ j k a b e.
              let x = of_slot j a in
              let y = of_slot k b in
              let n : (at s.pieces j).interval ≡ (at s.pieces k).interval = sym x.named ∙ e ∙ y.named in
              let q : Some x.number ≡ Some y.number = sym x.home ∙ ap (λ (v : ℕ). get_or s.homes v None) n ∙ y.home in
              x.says ∙ (let z : x.number ≡ y.number = cc in z) ∙ sym y.says;
          multiple = λ k o. let x = of_slot k o in rw (x.says, x.named) (i.slots.multiple _ x.number x.home);
          apart = λ j k a b p.
              let x = of_slot j a in
              let y = of_slot k b in
              rw (x.says, x.named, y.says, y.named)
              (λ u v. elim (ℕ_discrete (at s.pieces j).interval (at s.pieces k).interval) [
                | yes d ↦ d
                | no d ↦ absurd (⊎_elim
                    (λ (z : x.number + size_of (interval T (at s.pieces j).interval) ≤ y.number). omega (arith, u.1, v.0))
                    (λ (z : y.number + size_of (interval T (at s.pieces k).interval) ≤ x.number). omega (arith, u.0, v.1))
                    (i.slots.apart _ _ x.number y.number d x.home y.home))
              ]);
          most = λ k o. let x = of_slot k o in rw (x.says, x.named) (omega (arith, i.slots.under _ x.number x.home));
          reached = ⊎_elim (λ (z : s.total ≡ 0). inl (total ∙ z)) (λ (z : (v : ℕ) × (t : ℕ) × (get_or s.homes v None ≡ Some t) × (s.total ≡ t + size_of (interval T v))). inr (top z)) i.slots.top;
        }
      where
        top : (v : ℕ) × (t : ℕ) × (get_or s.homes v None ≡ Some t) × (s.total ≡ t + size_of (interval T v))
            → (k : ℕ) × InSlot T c k × (c.total ≡ (rec T c k).number + size_of (interval T (rec T c k).interval))
        top (v, t, e, f) =
            let u = i.used v t e in
            let w : (at s.pieces u.0).place ≡ Slot t = u.3 in
            let rd = reads u.0 u.1 in
            (u.0, (claimed u.0 u.1, rd.kind ∙ ap kind_of w), total ∙ rw (rd.number, rd.interval, w, u.2) f)

    rule7 : Rule7 T c
    rule7 =
        record {
          defined = λ k o ref j d.
              let r = of_register k o in
              let w = reads k r.here in
              go k r.here (in_register_lem k r.number r.here r.place) (rw w.interval at ref) j (rw w.interval at d.own) (rw (w.first, w.last) at d.inside) (λ m a b x. rw (w.interval, w.first, w.last) at (d.least m) a b x);
        }
      where
        go : (k : ℕ) (h : k < length s.pieces) {r : ℕ} → InRegOf T l s.active k (at s.pieces k).interval (at s.pieces k).start (at s.pieces k).end (at s.pieces k).mentions (at s.pieces k).safepoints r
            → (interval T (at s.pieces k).interval).reference ≡ true → (j : ℕ) → InRange (interval T (at s.pieces k).interval).safepoints j
            → ((at s.pieces k).start ≤ use_at T j) × (use_at T j ≤ (at s.pieces k).end)
            → ((m : ℕ) → InRange (interval T (at s.pieces k).interval).safepoints m → m < j → ((at s.pieces k).start ≤ use_at T m) × (use_at T m ≤ (at s.pieces k).end) → ⊥)
            → Holds T c k (def_point (safepoint T j)) × ((m : ℕ) × InRange (interval T (rec T c k).interval).mentions m × IsPointOf T c m (def_point (safepoint T j)))
        go k h y ref j own at_j least =
            let q = shape k h in
            let v = (at s.pieces k).interval in
            let p = (at s.pieces k).safepoints in
            let m = run_has (safepoints_rise T ok v q.named) q.safes j own.0 own.1 at_j.0 at_j.1 in
            let z : j ≡ p.index = elim (dec_lt p.index j) [
              | yes b ↦ absurd (least p.index (q.safes.low, omega (arith, own.1)) b (q.safes.starts p.index (omega arith) (omega (arith, m.0, m.1)), q.safes.ends p.index (omega arith) (omega (arith, m.0, m.1))))
              | no b ↦ omega (arith, m.0)
            ] in
            let o = y.safe ref (omega (arith, m.0, m.1)) in
            let n : InRange (interval T v).mentions o.0 = (omega (arith, o.1.0, q.ments.low), omega (arith, o.1.1, q.ments.high)) in
            let w = points_at T ok v q.named o.0 n in
            let e : last_point T o.0 ≡ def_point (safepoint T j) = o.2 ∙ ap (λ (x : ℕ). def_point (safepoint T x)) (sym z) in
            let lo = q.ments.starts o.0 o.1.0 o.1.1 in
            let hi = q.ments.ends o.0 o.1.0 o.1.1 in
            (rw ((reads k h).first, (reads k h).last) (omega (arith, w.up), omega arith), (o.0, rw (reads k h).interval n, rw (← e) w.last))

    pub rules_hold : HoldBelow T c 8
    rules_hold zero a b = tt
    rules_hold (suc zero) a b = rule1
    rules_hold (suc (suc zero)) a b = rule2
    rules_hold (suc (suc (suc zero))) a b = rule3
    rules_hold (suc (suc (suc (suc zero)))) a b = rule4
    rules_hold (suc (suc (suc (suc (suc zero))))) a b = rule5
    rules_hold (suc (suc (suc (suc (suc (suc zero)))))) a b = rule6
    rules_hold (suc (suc (suc (suc (suc (suc (suc zero))))))) a b = rule7
    rules_hold (suc (suc (suc (suc (suc (suc (suc (suc j)))))))) a b = tt
