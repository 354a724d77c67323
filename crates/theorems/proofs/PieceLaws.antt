-- What stands where after a split or a change of place, once.
-- Assumes nothing.
use Prim.Native.Nat.{ℕ, ◌+◌, ◌<◌}
use mathlib.Core.Path.{◌≡◌, ◌∙◌}
use mathlib.Core.Logic.{◌≢◌}
use mathlib.Core.List.{List, [], ◌∷◌}
use native.Mathlib.Omega.{arith}
use native.Mathlib.Decide.{ℕ_discrete}
use lib.ListN.{length, set, length-set, length-append, get_or-append}
use lib.Seq.{get_or-set_same, get_or-set_other, get_or_at}
use Rattle.rules.specs.declared.Piece.{Piece}
use Rattle.rules.specs.declared.Place.{Place}
use Rattle.rules.specs.State.{no_piece, with_place}
use Rattle.rules.specs.Split.{parent, child, split_pieces}
use Rattle.theorems.specs.Invariant.{at}

-- record k is given place w
unfoldable pub placed : List Piece → ℕ → Place → List Piece
placed ps k w = set ps k (with_place w (at ps k))

pub length_placed : (ps : List Piece) (k : ℕ) (w : Place) → length (placed ps k w) ≡ length ps
unfolding placed
length_placed ps k w = length-set ps k _

pub at_placed : (ps : List Piece) (k : ℕ) (w : Place) → k < length ps → at (placed ps k w) k ≡ with_place w (at ps k)
unfolding placed
at_placed ps k w h = get_or-set_same ps k _ no_piece h

pub at_unplaced : (ps : List Piece) (k : ℕ) (w : Place) (j : ℕ) → j ≢ k → at (placed ps k w) j ≡ at ps j
unfolding placed
at_unplaced ps k w j n = get_or-set_other ps k j _ no_piece n

-- what holds of the record that is placed, and of every other, holds of all afterwards
pub placed_ind : (P : ℕ → Piece → Type 0) (ps : List Piece) (k : ℕ) (w : Place) → P k (with_place w (at ps k))
    → ((j : ℕ) → j < length ps → j ≢ k → P j (at ps j)) → (j : ℕ) → j < length (placed ps k w) → P j (at (placed ps k w) j)
placed_ind P ps k w a o j h = go (ℕ_discrete j k)
  where
    l : j < length ps
    l = rw length_placed at h

    go : Dec (j ≡ k) → P j (at (placed ps k w) j)
    go (yes e) = rw e (rw (at_placed ps k w (omega (arith, l, e))) a)
    go (no n) = rw (at_unplaced ps k w j n) (o j l n)

module _ (ms sp : List ℕ) where
  pub length_split : (ps : List Piece) (k p : ℕ) → length (split_pieces ms sp ps k p) ≡ length ps + 1
  unfolding split_pieces
  length_split ps k p = simp (length-append, length-set) (omega arith)

  pub at_old : (ps : List Piece) (k p j : ℕ) → j < length ps → j ≢ k → at (split_pieces ms sp ps k p) j ≡ at ps j
  unfolding split_pieces
  at_old ps k p j h n =
      get_or-append (set ps k (parent ms sp (at ps k) p)) (child ms sp (at ps k) p ∷ []) no_piece j (rw length-set h)
      ∙ get_or-set_other ps k j (parent ms sp (at ps k) p) no_piece n

  pub at_parent : (ps : List Piece) (k p : ℕ) → k < length ps → at (split_pieces ms sp ps k p) k ≡ parent ms sp (at ps k) p
  unfolding split_pieces
  at_parent ps k p h =
      get_or-append (set ps k (parent ms sp (at ps k) p)) (child ms sp (at ps k) p ∷ []) no_piece k (rw length-set h)
      ∙ get_or-set_same ps k (parent ms sp (at ps k) p) no_piece h

  pub at_child : (ps : List Piece) (k p : ℕ) → at (split_pieces ms sp ps k p) (length ps) ≡ child ms sp (at ps k) p
  unfolding split_pieces
  at_child ps k p = get_or_at (set ps k (parent ms sp (at ps k) p)) (child ms sp (at ps k) p) [] no_piece (length ps) (length-set ps k _)

  -- what holds of the parent, of the child and of every other old record holds of all after the split
  pub split_ind : (P : ℕ → Piece → Type 0) (ps : List Piece) (k p : ℕ) → k < length ps → P k (parent ms sp (at ps k) p) → P (length ps) (child ms sp (at ps k) p)
      → ((j : ℕ) → j < length ps → j ≢ k → P j (at ps j)) → (j : ℕ) → j < length (split_pieces ms sp ps k p) → P j (at (split_pieces ms sp ps k p) j)
  split_ind P ps k p h a b o j l = go (ℕ_discrete j k) (ℕ_discrete j (length ps))
    where
      go : Dec (j ≡ k) → Dec (j ≡ length ps) → P j (at (split_pieces ms sp ps k p) j)
      go (yes e) d = rw e (rw (at_parent ps k p h) a)
      go (no n) (yes e) = rw e (rw (at_child ps k p) b)
      go (no n) (no m) = let s : j < length ps = omega (arith, length_split ps k p) in rw (at_old ps k p j s n) (o j s n)
