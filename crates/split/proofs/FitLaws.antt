-- Every piece still fits after a split, a place and a spill.
-- Assumes nothing.
use Rattle.std.specs.Prelude.{Option, None, Some}
use Prim.Native.Nat.{ℕ, zero, suc, ◌<◌}
use mathlib.Core.Path.{◌≡◌, sym}
use mathlib.Core.List.{List, [], ◌∷◌, ◌++◌}
use native.Mathlib.Omega.{arith}
use native.Mathlib.Decide.{ℕ_discrete}
use lib.ListN.{length, get_or, set, length-set}
use lib.Seq.{get_or-set_same, get_or-set_other}
use Rattle.words.specs.declared.Range.{Range}
use Rattle.rules.specs.declared.Piece.{Piece}
use Rattle.rules.specs.declared.Place.{Place}
use Rattle.rules.specs.declared.Place.TheVariants.{Slot}
use Rattle.rules.specs.State.{Given, State, no_piece, with_place, put, enqueue}
use Rattle.rules.specs.Split.{parent, child, split_pieces}
use Rattle.rules.specs.Slots.{spill, spill_to}
use Rattle.uses.specs.Runs.{Rising, Ascending, SubRange}
use Rattle.uses.proofs.RunLaws.{sub_refl, sub_first, sub_rest, staying_most}
use Rattle.split.specs.Fit.{PieceFits, Fit}

-- a run inside one that rises, rises
pub rising_sub : (small big : Range) (ms : List ℕ) → SubRange small big → Rising big ms → Rising small ms
rising_sub small big ms s r =
    record {
      inside = omega (arith, s, r);
      short = r.short;
      pointed = λ j h. r.pointed j (omega (arith, s, h), omega (arith, s, h));
      ascending = λ j k h i l. r.ascending j k (omega (arith, s, h), omega (arith, s, h)) (omega (arith, s, i), omega (arith, s, i)) l;
    }

pub ascending_sub : (small big : Range) (ss : List ℕ) → SubRange small big → Ascending big ss → Ascending small ss
ascending_sub small big ss s r =
    record {
      inside = omega (arith, s, r);
      short = r.short;
      below = λ j h. r.below j (omega (arith, s, h), omega (arith, s, h));
      ascending = λ j k h i l. r.ascending j k (omega (arith, s, h), omega (arith, s, h)) (omega (arith, s, i), omega (arith, s, i)) l;
    }

module _ (ms ss : List ℕ) where
  -- the halves of a split fit
  pub fits_parent : (q : Piece) (p : ℕ) → PieceFits ms ss q → PieceFits ms ss (parent ms ss q p)
  fits_parent q p h =
      record {
        mentions = rising_sub _ q.mentions ms (sub_first _ q.mentions q.mentions (staying_most _ q.mentions ms) (sub_refl _)) h.mentions;
        safepoints = ascending_sub _ q.safepoints ss (sub_first _ q.safepoints q.safepoints (staying_most _ q.safepoints ss) (sub_refl _)) h.safepoints;
      }

  pub fits_child : (q : Piece) (p : ℕ) → PieceFits ms ss q → PieceFits ms ss (child ms ss q p)
  fits_child q p h =
      record {
        mentions = rising_sub _ q.mentions ms (sub_rest _ q.mentions q.mentions (staying_most _ q.mentions ms) (sub_refl _)) h.mentions;
        safepoints = ascending_sub _ q.safepoints ss (sub_rest _ q.safepoints q.safepoints (staying_most _ q.safepoints ss) (sub_refl _)) h.safepoints;
      }

  -- a piece that fits takes the place of another
  pub fit_set : (ps : List Piece) (k : ℕ) (q : Piece) → PieceFits ms ss q → Fit ms ss ps → Fit ms ss (set ps k q)
  fit_set ps k q f h = record { each = each }
    where
      each : (j : ℕ) → j < length (set ps k q) → PieceFits ms ss (get_or (set ps k q) j no_piece)
      each j l = go (ℕ_discrete j k)
        where
          inside : j < length ps
          inside = simp length-set at l

          go : Dec (j ≡ k) → PieceFits ms ss (get_or (set ps k q) j no_piece)
          go (yes e) = rw (e, get_or-set_same ps k q no_piece (rw (sym e) inside)) f
          go (no n) = rw (get_or-set_other ps k j q no_piece n) (h.each j inside)

  -- a piece that fits is appended
  pub fit_append : (ps : List Piece) (q : Piece) → PieceFits ms ss q → Fit ms ss ps → Fit ms ss (ps ++ (q ∷ []))
  fit_append [] q f h = record { each = each }
    where
      each : (j : ℕ) → j < 1 → PieceFits ms ss (get_or (q ∷ []) j no_piece)
      each zero l = f
      each (suc j) l = absurd (omega arith)
  fit_append (x ∷ ps) q f h = record { each = each (fit_append ps q f (record { each = λ k l. h.each (suc k) (omega arith) })) }
    where
      each : Fit ms ss (ps ++ (q ∷ [])) → (j : ℕ) → j < suc (length (ps ++ (q ∷ []))) → PieceFits ms ss (get_or (x ∷ (ps ++ (q ∷ []))) j no_piece)
      each g zero l = h.each 0 (omega arith)
      each g (suc j) l = g.each j (omega arith)

  -- a split keeps the fit
  pub fit_split : (ps : List Piece) (k p : ℕ) → k < length ps → Fit ms ss ps → Fit ms ss (split_pieces ms ss ps k p)
  unfolding split_pieces
  fit_split ps k p l h = fit_append _ _ (fits_child _ p (h.each k l)) (fit_set ps k _ (fits_parent _ p (h.each k l)) h)

  -- a place has no part in it
  pub fits_place : (q : Piece) (w : Place) → PieceFits ms ss q → PieceFits ms ss (with_place w q)
  fits_place q w h = record { mentions = h.mentions; safepoints = h.safepoints }

  pub fit_put : (s : State) (k : ℕ) (w : Place) → k < length s.pieces → Fit ms ss s.pieces → Fit ms ss (put s k w).pieces
  unfolding put
  fit_put s k w l h = fit_set s.pieces k _ (fits_place _ w (h.each k l)) h

  -- the queue has no part in it
  pub fit_enqueue : (s : State) (k : ℕ) → Fit ms ss s.pieces → Fit ms ss (enqueue s k).pieces
  unfolding enqueue
  fit_enqueue s k h = h

  -- a spill keeps the fit
  pub fit_spill_to : (s : State) (k size : ℕ) (h : Option ℕ) → k < length s.pieces → Fit ms ss s.pieces → Fit ms ss (spill_to s k size h).pieces
  unfolding spill_to
  fit_spill_to s k size (Some t) l f = fit_put s k (Slot t) l f
  fit_spill_to s k size None l f = fit_put _ k (Slot _) l f

  pub fit_spill : (g : Given) (s : State) (k : ℕ) → k < length s.pieces → Fit ms ss s.pieces → Fit ms ss (spill g s k).pieces
  unfolding spill
  fit_spill g s k l f = fit_spill_to s k _ _ l f
