-- What follows of the invariant once a record is popped and step 1 has run: B4 to B8.
-- Assumes accepted tables.
use Rattle.std.specs.Prelude.{Some}
use Prim.Native.Nat.{ℕ, ◌≤◌, ◌<◌}
use mathlib.Core.Path.{◌≡◌, refl}
use mathlib.Core.Logic.{◌≢◌, inr, ⊎_elim}
use mathlib.Core.Bool.{Bool, true, false}
use mathlib.Core.List.{List, [], ◌∷◌, Memᴰ}
use native.Mathlib.Omega.{arith}
use native.Mathlib.Decide.{dec_lt}
use lib.ListN.{length}
use Rattle.words.specs.Points.{within}
use Rattle.words.specs.Packed.{fragment_in, register_at}
use Rattle.rules.specs.declared.Place.{Place}
use Rattle.rules.specs.declared.Place.TheVariants.{Nowhere, Register, Slot}
use Rattle.rules.specs.declared.Pos.TheVariants.{At}
use Rattle.rules.specs.Tables.{Tables}
use Rattle.rules.specs.Accepted.{Accepted}
use Rattle.rules.specs.Uses.{next_use}
use Rattle.rules.specs.State.{Given, State, points_of, fragments_of}
use Rattle.rules.specs.Steps.{in_register, fixed_active, first_start}
use Rattle.theorems.specs.Invariant.{at, In, InRegOf}
use Rattle.theorems.proofs.ListLaws.{part_is}
use Rattle.rules.proofs.AcceptedLaws.{or_either}
use Rattle.theorems.proofs.UseLaws.{Least, next_is}
use Rattle.theorems.proofs.TableLaws.{whose, spans}
use Rattle.theorems.proofs.FragmentLaws.{within_true, in_table, unfixed_at, StartIs, start_is}
use Rattle.theorems.proofs.Changes.{nowhere_register}
use Rattle.theorems.proofs.Safepoints.{But}
use Rattle.theorems.proofs.Steps.{registered, Popped}

-- a fragment that contains S is there
fixed_has : (S : ℕ) (ws : List ℕ) → fixed_active S ws ≡ true → (w : ℕ) × Memᴰ w ws × ((fragment_in w).first ≤ S) × (S ≤ (fragment_in w).last)
unfolding fixed_active
fixed_has S [] e = let z : ◌≡◌ {A = ℕ} 0 1 = cc in absurd (omega arith)
fixed_has S (w ∷ ws) e =
    ⊎_elim (λ (a : within (fragment_in w).first (fragment_in w).last S ≡ true). let o = within_true (fragment_in w).first (fragment_in w).last S a in (w, Memᴰ.head refl, o.0, o.1))
    (λ (b : fixed_active S ws ≡ true). let r = fixed_has S ws b in (r.0, Memᴰ.tail r.1, r.2, r.3)) (or_either (within (fragment_in w).first (fragment_in w).last S) (fixed_active S ws) e)

module _ (g : Given) (ok : Accepted g.tables) (small : g.capacity ≤ 16384) (S k : ℕ) (s : State) (d : Popped g ok small S k s) where
  abbrev T : Tables
  T = g.tables

  but : (j : ℕ) → j ≢ k → But k j → ⊥
  but j n (mathlib.Core.Logic.inl x') = elim x' [ ]
  but j n (inr e) = n e

  -- B4: the active records are in a register and contain S
  pub record Active (j : ℕ) : Type 0 where
    pub here : j < length s.pieces
    pub other : j ≢ k
    pub register : ℕ
    pub place : (at s.pieces j).place ≡ Register register
    pub holds : InRegOf T S s.active j (at s.pieces j).interval (at s.pieces j).start (at s.pieces j).end (at s.pieces j).mentions (at s.pieces j).safepoints register
    pub around : In S (at s.pieces j)

  pub active_is : (j : ℕ) → Memᴰ j s.active → Active j
  active_is j m = by (at s.pieces j).place refl (d.active j m).0
    where
      h : j < length s.pieces
      h = registered s.pieces j (d.active j m).0

      by : (w : Place) → (at s.pieces j).place ≡ w → in_register w ≡ true → Active j
      by Nowhere e t = let z : ◌≡◌ {A = ℕ} 0 1 = cc in absurd (omega arith)
      by (Register r) e t =
          let n : j ≢ k = λ o. nowhere_register (at s.pieces j).place r (rw o d.free) e in
          let x = rw e at (d.inv.held j h (but j n)) in
          record { here = h; other = n; register = r; place = e; holds = x; around = (x.begun, (d.active j m).1) }
      by (Slot t) e o = let z : ◌≡◌ {A = ℕ} 0 1 = cc in absurd (omega arith)

  -- B4: and each record in a register that contains S is active; B6: another lies wholly below S
  pub is_active : (j r : ℕ) → j < length s.pieces → (at s.pieces j).place ≡ Register r → S ≤ (at s.pieces j).end → Memᴰ j s.active
  is_active j r h e l = let n : j ≢ k = λ o. nowhere_register (at s.pieces j).place r (rw o d.free) e in (rw e at (d.inv.held j h (but j n))).tracked l

  pub below_start : (j r : ℕ) → j < length s.pieces → (at s.pieces j).place ≡ Register r → (Memᴰ j s.active → ⊥) → (at s.pieces j).end < S
  below_start j r h e n = elim (dec_lt (at s.pieces j).end S) [ yes l ↦ l | no l ↦ absurd (n (is_active j r h e (omega arith))) ]

  -- B4: at most one for each register, and none of the popped record's interval
  pub one_each : (i j r : ℕ) (a : Active i) (b : Active j) → (at s.pieces i).place ≡ Register r → (at s.pieces j).place ≡ Register r → i ≡ j
  one_each i j r a b e f = d.inv.alone i a.here (but i a.other) j b.here (but j b.other) r S e f a.around b.around

  pub other_interval : (j : ℕ) (a : Active j) → (at s.pieces j).interval ≢ (at s.pieces k).interval
  other_interval j a e = a.other (d.inv.core.parts.apart j a.here k d.here S e a.around (omega (arith, d.begins), omega (arith, d.begins, (d.inv.core.shape k d.here).fits)))

  module _ (j : ℕ) (a : Active j) where
    in_here : a.register < length T.registers
    in_here = in_table T ok (at s.pieces j).interval a.register (d.inv.core.shape j a.here).named a.holds.usable

    -- a fragment of its register does not meet an active record
    apart : (w x : ℕ) → Memᴰ w (fragments_of g a.register) → In x (at s.pieces j) → (fragment_in w).first ≤ x → x ≤ (fragment_in w).last → ⊥
    apart w x m o u v =
        let f = part_is (register_at T.registers a.register) T.fragments (ok.fixed a.register in_here).inside m in
        a.holds.unfixed f.0 f.1 x o.0 o.1 (rw f.2 at u) (rw f.2 at v)

    -- B5: its register is not fixed-active
    pub not_fixed_active : fixed_active S (fragments_of g a.register) ≡ false
    not_fixed_active = by (fixed_active S (fragments_of g a.register)) refl
      where
        by : (b : Bool) → fixed_active S (fragments_of g a.register) ≡ b → fixed_active S (fragments_of g a.register) ≡ false
        by false e = e
        by true e = let w = fixed_has S (fragments_of g a.register) e in absurd (apart w.0 S w.1 a.around w.2 w.3)

    -- B7: its first fragment start from S on is above S
    pub above_start : (e b : ℕ) → first_start S e (fragments_of g a.register) ≡ At b → S < b
    above_start e b f = (unfixed_at T ok a.register S e in_here not_fixed_active b f).0

    -- B8: its next use from S is no fragment start, so "the least of the two" is never a tie
    pub no_tie : (e b z : ℕ) → first_start S e (fragments_of g a.register) ≡ At b → next_use S (points_of g (at s.pieces j)) ≡ Some z → z ≢ b
    no_tie e b z f u t =
        let k : StartIs S e (fragments_of g a.register) (At b) = rw f at (start_is S e (fragments_of g a.register)) in
        let n : Least S (points_of g (at s.pieces j)) z = rw u at (next_is S (points_of g (at s.pieces j))) in
        let q = d.inv.core.shape j a.here in
        let o = spans T ok (at s.pieces j) q z (whose T ok (at s.pieces j) q z n.has) in
        let p = part_is (register_at T.registers a.register) T.fragments (ok.fixed a.register in_here).inside k.has in
        let up : (fragment_in k.who).first ≤ (fragment_in k.who).last = rw p.2 ((ok.fixed a.register in_here).ordered p.0 p.1) in
        apart k.who z k.has (o.0, o.1) (omega (arith, k.is)) (omega (arith, k.is))
