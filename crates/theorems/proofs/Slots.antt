-- D2 and D3: the slots, and the spill of a record.
-- Assumes accepted tables.
use Rattle.std.specs.Prelude.{Option, None, Some}
use Prim.Native.Nat.{ℕ, zero, suc, ◌+◌, ◌*◌, ◌%◌, ◌^◌, ◌≤◌, ◌<◌}
use mathlib.Core.Path.{◌≡◌, refl, sym, ap, ◌∙◌}
use mathlib.Core.Logic.{◌≢◌, ◌⊎◌, inl, inr, ⊎_elim}
use mathlib.Core.List.{List, [], ◌∷◌}
use native.Mathlib.Omega.{arith}
use native.Mathlib.Decide.{ℕ_discrete}
use lib.ListN.{length, get_or, set, length-set}
use lib.Seq.{get_or-set_same, get_or-set_other}
use Rattle.words.specs.Packed.{size_of, interval_count, interval_words}
use Rattle.words.proofs.Field.{bits_lt}
use Rattle.rules.specs.declared.Place.TheVariants.{Slot}
use Rattle.rules.specs.Tables.{Tables}
use Rattle.rules.specs.Accepted.{interval, Accepted}
use Rattle.rules.specs.State.{Given, State, put, interval_of}
use Rattle.rules.specs.Slots.{round_up, spill_to, spill}
use Rattle.theorems.specs.Invariant.{at, spilled_homes, Slots, Inv}
use Rattle.theorems.proofs.PieceLaws.{placed}
use Rattle.theorems.proofs.Changes.{Within, inv_place}

-- "rounded up to a multiple of its size", for the sizes 1, 2, 4, 8: a multiple, not below, and with its size within 8 more than a multiple of 8 that is not below
pub record Rounded (n z t : ℕ) : Type 0 where
  pub multiple : t % z ≡ 0
  pub above : n ≤ t
  pub some : 0 < z
  pub within : (c : ℕ) → n ≤ 8 * c → t + z ≤ 8 * (c + 1)

rounds : (n i : ℕ) → i < 4 → Rounded n (2 ^ i) (round_up n (2 ^ i))
rounds n zero h = record { multiple = omega arith; above = omega arith; some = omega arith; within = λ c k. omega arith }
rounds n (suc zero) h = record { multiple = omega arith; above = omega arith; some = omega arith; within = λ c k. omega arith }
rounds n (suc (suc zero)) h = record { multiple = omega arith; above = omega arith; some = omega arith; within = λ c k. omega arith }
rounds n (suc (suc (suc zero))) h = record { multiple = omega arith; above = omega arith; some = omega arith; within = λ c k. omega arith }
rounds n (suc (suc (suc (suc i)))) h = absurd (omega arith)

-- one more virtual register has a slot; and no more than there are
homes_set : (hs : List (Option ℕ)) (v t : ℕ) → v < length hs → get_or hs v None ≡ None → spilled_homes (set hs v (Some t)) ≡ spilled_homes hs + 1
unfolding spilled_homes
homes_set [] v t h e = absurd (omega arith)
homes_set (None ∷ hs) zero t h e = omega arith
homes_set (Some x ∷ hs) zero t h e = let z : ◌≡◌ {A = ℕ} 0 1 = cc in absurd (omega arith)
homes_set (None ∷ hs) (suc v) t h e = homes_set hs v t (omega arith) e
homes_set (Some x ∷ hs) (suc v) t h e = let r = homes_set hs v t (omega arith) e in omega arith

pub homes_most : (hs : List (Option ℕ)) → spilled_homes hs ≤ length hs
unfolding spilled_homes
homes_most [] = omega arith
homes_most (None ∷ hs) = omega (arith, homes_most hs)
homes_most (Some x ∷ hs) = omega (arith, homes_most hs)

module _ (T : Tables) where
  -- sizes 1, 2, 4, 8
  pub slot_rounds : (n v : ℕ) → Rounded n (size_of (interval T v)) (round_up n (size_of (interval T v)))
  slot_rounds n v = rounds n (interval T v).log_size (bits_lt 26 2 (get_or T.intervals (v * interval_words) 0))

  -- the first spill of virtual register v
  first_spill : (hs : List (Option ℕ)) (n v : ℕ) → Slots T hs n → v < interval_count T.intervals → get_or hs v None ≡ None
      → Slots T (set hs v (Some (round_up n (size_of (interval T v))))) (round_up n (size_of (interval T v)) + size_of (interval T v))
  first_spill hs n v s h e =
      record {
        long = length-set hs v (Some t) ∙ s.long;
        multiple = λ u y k. cases u y k (λ a b. rw (a, ← b) r.multiple) (λ a k'. s.multiple u y k');
        under = λ u y k. cases u y k (λ a b. rw a (omega arith)) (λ a k'. omega (arith, r.above, s.under u y k'));
        apart = two;
        top = inr (v, t, same, refl);
        few = omega (arith, r.within (spilled_homes hs) s.few, homes_set hs v t (omega (arith, s.long)) e);
      }
    where
      t : ℕ
      t = round_up n (size_of (interval T v))

      r : Rounded n (size_of (interval T v)) (round_up n (size_of (interval T v)))
      r = slot_rounds n v

      hs' : List (Option ℕ)
      hs' = set hs v (Some (round_up n (size_of (interval T v))))

      same : get_or (set hs v (Some (round_up n (size_of (interval T v))))) v None ≡ Some (round_up n (size_of (interval T v)))
      same = get_or-set_same hs v _ None (omega (arith, s.long))

      cases : {P : Type 0} (u y : ℕ) → get_or (set hs v (Some (round_up n (size_of (interval T v))))) u None ≡ Some y → (u ≡ v → round_up n (size_of (interval T v)) ≡ y → P) → (u ≢ v → get_or hs u None ≡ Some y → P) → P
      cases {P} u y k a b = go (ℕ_discrete u v)
        where
          go : Dec (u ≡ v) → P
          go (yes d) = let q : Some (round_up n (size_of (interval T v))) ≡ Some y = sym same ∙ (rw d at k) in a d (let p : round_up n (size_of (interval T v)) ≡ y = cc in p)
          go (no d) = b d (sym (get_or-set_other hs v u _ None d) ∙ k)

      two : (u u' y y' : ℕ) → u ≢ u' → get_or hs' u None ≡ Some y → get_or hs' u' None ≡ Some y' → (y + size_of (interval T u) ≤ y') ⊎ (y' + size_of (interval T u') ≤ y)
      two u u' y y' d k k' =
          cases u y k (λ a b. cases u' y' k' (λ a' b'. absurd (d (a ∙ sym a'))) (λ a' o. inr (omega (arith, r.above, s.under u' y' o))))
          (λ a o. cases u' y' k' (λ a' b'. inl (omega (arith, r.above, s.under u y o))) (λ a' o'. s.apart u u' y y' d o o'))

-- what a spill of record j leaves: it lies in the slot z of its virtual register
pub record SpillOf (s : State) (j : ℕ) (s' : State) : Type 0 where
  pub slot : ℕ
  pub pieces : s'.pieces ≡ placed s.pieces j (Slot slot)
  pub queue : s'.queue ≡ s.queue
  pub active : s'.active ≡ s.active
  pub home : get_or s'.homes (at s.pieces j).interval None ≡ Some slot
  pub keeps : Within s.homes s'.homes
  pub only : (v t : ℕ) → get_or s'.homes v None ≡ Some t → (((at s.pieces j).interval ≡ v) × (slot ≡ t)) ⊎ (get_or s.homes v None ≡ Some t)

module _ (g : Given) (ok : Accepted g.tables) where
  spills : (s : State) (j : ℕ) → Slots g.tables s.homes s.total → (at s.pieces j).interval < interval_count g.tables.intervals
      → SpillOf s j (spill g s j) × Slots g.tables (spill g s j).homes (spill g s j).total
  unfolding spill spill_to put placed
  spills s j l h = by (get_or s.homes v None) refl
    where
      v : ℕ
      v = (at s.pieces j).interval

      by : (x : Option ℕ) → get_or s.homes (at s.pieces j).interval None ≡ x
          → SpillOf s j (spill_to s j (size_of (interval_of g (at s.pieces j))) x) × Slots g.tables (spill_to s j (size_of (interval_of g (at s.pieces j))) x).homes (spill_to s j (size_of (interval_of g (at s.pieces j))) x).total
      by (Some t) e = (record { slot = t; pieces = refl; queue = refl; active = refl; home = e; keeps = λ v t o. o; only = λ v t o. inr o }, l)
      by None e =
          let z : ℕ = round_up s.total (size_of (interval g.tables (at s.pieces j).interval)) in (
            record {
              slot = z;
              pieces = refl;
              queue = refl;
              active = refl;
              home = get_or-set_same s.homes _ _ None (omega (arith, l.long));
              keeps = λ u t o. get_or-set_other s.homes _ u _ None (λ d. let q : Some t ≡ None = sym o ∙ (rw d e) in let c : ◌≡◌ {A = ℕ} 0 1 = cc in absurd (omega arith)) ∙ o;
              only = λ u t o. elim (ℕ_discrete u (at s.pieces j).interval) [
                | yes d ↦ inl (sym d, let q : Some z ≡ Some t = sym (get_or-set_same s.homes _ (Some z) None (omega (arith, l.long))) ∙ (rw d at o) in let c : z ≡ t = cc in c)
                | no d ↦ inr (sym (get_or-set_other s.homes _ u _ None d) ∙ o)
              ];
            },
            first_spill g.tables s.homes s.total (at s.pieces j).interval l h e,
          )

  -- a record that is left out, and is not spilled yet, is spilled; it is left out still
  pub inv_spill : (l : ℕ) (X : ℕ → Type 0) (s : State) (j : ℕ) → Inv g l X s → X j → j < length s.pieces → ((t : ℕ) → (at s.pieces j).place ≢ Slot t) → Inv g l X (spill g s j) × SpillOf s j (spill g s j)
  inv_spill l X s j i x h n =
      let o = spills s j i.slots (i.core.shape j h).named in
      let p = o.0 in (
        inv_place g ok l X s (spill g s j) j (Slot p.slot) i x h n p.pieces p.queue (λ y m. rw p.active m) p.keeps o.1
            (λ v t e. ⊎_elim (λ (a : ((at s.pieces j).interval ≡ v) × (p.slot ≡ t)). inl (a.0, ap Slot a.1)) (λ (b : get_or s.homes v None ≡ Some t). inr b) (p.only v t e)),
        p,
      )
