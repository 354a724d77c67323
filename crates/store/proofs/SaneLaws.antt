-- Each operation on a state keeps it sane. Pure laws of `rules`' state: nothing here speaks of words or cells.
-- Assumes nothing.
use Rattle.std.specs.Prelude.{Option, None, Some}
use Prim.Native.Nat.{ℕ, zero, suc, ◌+◌, ◌*◌, ◌^◌, ◌≤◌, ◌<◌}
use mathlib.Core.Path.{◌≡◌, refl, ap}
use mathlib.Core.Bool.{Bool, true, false}
use mathlib.Core.List.{List, [], ◌∷◌, ◌++◌}
use native.Mathlib.Nat.{not-suc-le-zero, le_of_suc-le-suc}
use native.Mathlib.Omega.{arith}
use lib.Dec.{leb}
use lib.ListN.{length, get_or, set, length-set, length-append}
use Rattle.words.specs.Choose.{choose}
use Rattle.rules.specs.declared.Piece.{Piece}
use Rattle.rules.specs.State.{State, with_pieces, with_queue, with_active, with_homes, key, record_of_key, insert, enqueue}
use Rattle.rules.specs.Slots.{round_up}
use Rattle.store.specs.StateOf.{Each, none, more, spilled_in, Sane}

-- ---- every entry
module _ {A : Type 0} where
  pub each_at : (P : A → Type 0) (xs : List A) (i : ℕ) (d : A) → Each P xs → i < length xs → P (get_or xs i d)
  each_at P [] i d e h = absurd (not-suc-le-zero h)
  each_at P (x ∷ xs) zero d (more p e) h = p
  each_at P (x ∷ xs) (suc i) d (more p e) h = each_at P xs i d e (le_of_suc-le-suc h)

  pub each_set : (P : A → Type 0) (xs : List A) (i : ℕ) (a : A) → P a → Each P xs → Each P (set xs i a)
  each_set P [] i a p e = none
  each_set P (x ∷ xs) zero a p (more q e) = more p e
  each_set P (x ∷ xs) (suc i) a p (more q e) = more q (each_set P xs i a p e)

  pub each_snoc : (P : A → Type 0) (xs : List A) (a : A) → P a → Each P xs → Each P (xs ++ (a ∷ []))
  each_snoc P [] a p e = more p none
  each_snoc P (x ∷ xs) a p (more q e) = more q (each_snoc P xs a p e)

  pub each_weaker : (P Q : A → Type 0) (xs : List A) → ((x : A) → P x → Q x) → Each P xs → Each Q xs
  each_weaker P Q [] f e = none
  each_weaker P Q (x ∷ xs) f (more p e) = more (f x p) (each_weaker P Q xs f e)

  pub each_head : (P : A → Type 0) (x : A) (xs : List A) → Each P (x ∷ xs) → P x
  each_head P x xs (more p e) = p

  pub each_tail : (P : A → Type 0) (x : A) (xs : List A) → Each P (x ∷ xs) → Each P xs
  each_tail P x xs (more p e) = e

pub each_insert : (P : ℕ → Type 0) (k : ℕ) (xs : List ℕ) → P k → Each P xs → Each P (insert k xs)
unfolding insert
each_insert P k [] p e = more p none
each_insert P k (x ∷ xs) p (more q e) = go (leb k x) (each_insert P k xs p e)
  where
    go : (b : Bool) → Each P (insert k xs) → Each P (choose b (k ∷ x ∷ xs) (x ∷ insert k xs))
    go true ih = more p (more q e)
    go false ih = more q ih

-- ---- operations
module _ (n : ℕ) (s : State) (z : Sane n s) where
  -- a record's piece is changed
  pub sane_set : (k : ℕ) (q : Piece) → q.interval < n → Sane n (with_pieces (set s.pieces k q) s)
  sane_set k q h =
      record {
        owners = each_set _ s.pieces k q h z.owners;
        named = rw length-set z.named;
        actives = rw length-set z.actives;
        homes = z.homes;
        slots = z.slots;
      }

  -- a record is appended
  pub sane_append : (q : Piece) → q.interval < n → Sane n (with_pieces (s.pieces ++ (q ∷ [])) s)
  sane_append q h =
      let l : length (s.pieces ++ (q ∷ [])) ≡ length s.pieces + 1 = length-append s.pieces (q ∷ []) in
      record {
        owners = each_snoc _ s.pieces q h z.owners;
        named = each_weaker _ _ s.queue (λ x p. omega (arith, l, p)) z.named;
        actives = each_weaker _ _ s.active (λ x p. omega (arith, l, p)) z.actives;
        homes = z.homes;
        slots = z.slots;
      }

  -- a record is queued
  pub sane_enqueue : (k : ℕ) → k < length s.pieces → k < 16384 → Sane n (enqueue s k)
  unfolding enqueue
  sane_enqueue k h m =
      record {
        owners = z.owners;
        named = each_insert _ (key s k) s.queue (omega arith) z.named;
        actives = z.actives;
        homes = z.homes;
        slots = z.slots;
      }

  -- the first of the queue is popped
  pub sane_pop : (x : ℕ) (xs : List ℕ) → s.queue ≡ x ∷ xs → Sane n (with_queue xs s)
  sane_pop x xs e =
      record { owners = z.owners; named = each_tail _ x xs (rw e at z.named); actives = z.actives; homes = z.homes; slots = z.slots }

  pub popped_named : (x : ℕ) (xs : List ℕ) → s.queue ≡ x ∷ xs → record_of_key x < length s.pieces
  popped_named x xs e = each_head _ x xs (rw e at z.named)

  -- the active records are others
  pub sane_active : (js : List ℕ) → Each (λ (j : ℕ). j < length s.pieces) js → Sane n (with_active js s)
  sane_active js e = record { owners = z.owners; named = z.named; actives = e; homes = z.homes; slots = z.slots }

-- one home more has a slot
spilled_more : (hs : List (Option ℕ)) (v t : ℕ) → v < length hs → get_or hs v None ≡ None → spilled_in (set hs v (Some t)) ≡ suc (spilled_in hs)
unfolding spilled_in
spilled_more [] v t h e = absurd (not-suc-le-zero h)
spilled_more (None ∷ hs) zero t h e = refl
spilled_more (Some u ∷ hs) zero t h e = cc
spilled_more (None ∷ hs) (suc v) t h e = spilled_more hs v t (le_of_suc-le-suc h) e
spilled_more (Some u ∷ hs) (suc v) t h e = ap suc (spilled_more hs v t (le_of_suc-le-suc h) e)

-- at most all homes have a slot; fewer where one has none
spilled_most : (hs : List (Option ℕ)) → spilled_in hs ≤ length hs
unfolding spilled_in
spilled_most [] = omega arith
spilled_most (None ∷ hs) = let ih = spilled_most hs in omega arith
spilled_most (Some t ∷ hs) = let ih = spilled_most hs in omega arith

pub spilled_less : (hs : List (Option ℕ)) (v : ℕ) → v < length hs → get_or hs v None ≡ None → spilled_in hs < length hs
spilled_less hs v h e = omega (arith, spilled_more hs v 0 h e, spilled_most (set hs v (Some 0)), length-set hs v (Some 0))

-- a virtual register is given its slot
pub sane_home : (n : ℕ) (s : State) (v t total : ℕ) → Sane n s → v < n → get_or s.homes v None ≡ None → total ≤ 8 * spilled_in s.homes + 8
    → Sane n (with_homes (set s.homes v (Some t)) total s)
sane_home n s v t total z h e l =
    record {
      owners = z.owners;
      named = z.named;
      actives = z.actives;
      homes = rw length-set z.homes;
      slots = omega (arith, spilled_more s.homes v t (omega (arith, z.homes)) e);
    }

-- a slot is no further than 8 for each virtual register that has one
pub round_most : (total c l : ℕ) → l < 4 → total ≤ 8 * c → round_up total (2 ^ l) ≤ 8 * c
round_most total c zero h m = omega arith
round_most total c (suc zero) h m = omega arith
round_most total c (suc (suc zero)) h m = omega arith
round_most total c (suc (suc (suc zero))) h m = omega arith
round_most total c (suc (suc (suc (suc l)))) h m = absurd (omega arith)
