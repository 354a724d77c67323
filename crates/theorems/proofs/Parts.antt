-- A1 to A4 through a split and a change of place.
-- Assumes accepted tables.
use Prim.Native.Nat.{ℕ, ◌+◌, ◌-◌, ◌≤◌, ◌<◌}
use mathlib.Core.Path.{◌≡◌, refl, sym, ◌∙◌}
use mathlib.Core.List.{List}
use native.Mathlib.Omega.{arith}
use native.Mathlib.Decide.{ℕ_discrete, dec_lt}
use lib.ListN.{length}
use Rattle.rules.specs.declared.Piece.{Piece}
use Rattle.rules.specs.declared.Place.{Place}
use Rattle.rules.specs.Tables.{Tables}
use Rattle.rules.specs.Accepted.{Accepted}
use Rattle.rules.specs.State.{Given, with_place}
use Rattle.rules.specs.Split.{parent, child, split_pieces, staying_mentions, staying_safepoints}
use Rattle.theorems.specs.Invariant.{Shape, at, Apart, Covers, Parts, Core, Cut}
use Rattle.theorems.proofs.RunLaws.{run_parent, run_child}
use Rattle.theorems.proofs.PieceLaws.{placed, length_placed, at_placed, at_unplaced, placed_ind, length_split, at_old, at_parent, at_child, split_ind}
use Rattle.theorems.proofs.TableLaws.{cut_mentions, cut_safepoints}

module _ (g : Given) (ok : Accepted g.tables) where
  abbrev T : Tables
  T = g.tables

  abbrev ms : List ℕ
  ms = g.tables.mentions

  abbrev sp : List ℕ
  sp = g.tables.safepoints

  -- A3, A4 of the two pieces of a split
  module _ (q : Piece) (p : ℕ) (s : Shape T q) (c : Cut g q p) where
    pub shape_parent : Shape T (parent ms sp q p)
    shape_parent =
        record {
          named = s.named;
          begins = s.begins;
          fits = omega (arith, c.above);
          stops = omega (arith, s.stops, c.below);
          ments = run_parent s.ments c.above c.below (λ i a b. c.whole i (a, b)) (cut_mentions T ok q s p);
          safes = run_parent s.safes c.above c.below (λ i a b z. z) (cut_safepoints T ok q s p);
        }

    pub shape_child : Shape T (child ms sp q p)
    shape_child =
        let m = cut_mentions T ok q s p in
        let n = cut_safepoints T ok q s p in
        let em : q.mentions.index + staying_mentions ms sp q p + (q.mentions.count - staying_mentions ms sp q p) ≡ q.mentions.index + q.mentions.count = omega (arith, m.high) in
        let en : q.safepoints.index + staying_safepoints ms sp q p + (q.safepoints.count - staying_safepoints ms sp q p) ≡ q.safepoints.index + q.safepoints.count = omega (arith, n.high) in
        record {
          named = s.named;
          begins = omega (arith, s.begins, c.above);
          fits = c.below;
          stops = s.stops;
          ments = rw em (run_child s.ments c.above c.below (λ i a b. c.whole i (a, b)) m);
          safes = rw en (run_child s.safes c.above c.below (λ i a b z. z) n);
        }

  -- an old record keeps its interval, start and place
  pub split_same : (ps : List Piece) (k p m : ℕ) → k < length ps → m < length ps
      → ((at (split_pieces ms sp ps k p) m).interval ≡ (at ps m).interval) × ((at (split_pieces ms sp ps k p) m).start ≡ (at ps m).start) × ((at (split_pieces ms sp ps k p) m).place ≡ (at ps m).place)
  split_same ps k p m h a = go (ℕ_discrete m k)
    where
      go : Dec (m ≡ k) → ((at (split_pieces ms sp ps k p) m).interval ≡ (at ps m).interval) × ((at (split_pieces ms sp ps k p) m).start ≡ (at ps m).start) × ((at (split_pieces ms sp ps k p) m).place ≡ (at ps m).place)
      go (yes e) = rw (e, at_parent ms sp ps k p h) (refl, refl, refl)
      go (no n) = rw (at_old ms sp ps k p m a n) (refl, refl, refl)

  module _ (ps : List Piece) (i : Parts T ps) (k : ℕ) (h : k < length ps) where
    parts_split : (p : ℕ) → (at ps k).start < p → p ≤ (at ps k).end → Parts T (split_pieces ms sp ps k p)
    parts_split p above below =
        record {
          apart =
              split_ind ms sp (λ j a. (m : ℕ) → m < length qs → Apart j a m (at qs m)) ps k p h
              (split_ind ms sp (λ m b. Apart k (parent ms sp q p) m b) ps k p h (λ x e u v. refl) (λ x e u v. absurd (omega arith)) (λ m a d x e u v. absurd (d (sym (i.apart k h m a x e (omega arith) v)))))
              (split_ind ms sp (λ m b. Apart (length ps) (child ms sp q p) m b) ps k p h (λ x e u v. absurd (omega arith)) (λ x e u v. refl) (λ m a d x e u v. absurd (d (sym (i.apart k h m a x e (omega arith) v)))))
              (λ j a d. split_ind ms sp (λ m b. Apart j (at ps j) m b) ps k p h (λ x e u v. absurd (d (i.apart j a k h x e u (omega arith))))
              (λ x e u v. absurd (d (i.apart j a k h x e u (omega arith)))) (λ m b z. i.apart j a m b));
          cover = λ v x a b d. moved v x (i.cover v x a b d);
        }
      where
        q : Piece
        q = at ps k

        qs : List Piece
        qs = split_pieces ms sp ps k p

        longer : length (split_pieces ms sp ps k p) ≡ length ps + 1
        longer = length_split ms sp ps k p

        moved : (v x : ℕ) → Covers ps v x → Covers (split_pieces ms sp ps k p) v x
        moved v x (j, a, e, u, d) = go (ℕ_discrete j k) (dec_lt x p)
          where
            go : Dec (j ≡ k) → Dec (x < p) → Covers (split_pieces ms sp ps k p) v x
            go (no n) m = let s = at_old ms sp ps k p j a n in (j, omega (arith, longer), rw s e, rw s u, rw s d)
            go (yes n) (yes m) = let s = at_parent ms sp ps k p h in (k, omega (arith, longer), rw (s, ← n) e, rw (s, ← n) u, rw s (omega arith))
            go (yes n) (no m) = let s = at_child ms sp ps k p in (length ps, omega (arith, longer), rw (s, ← n) e, rw s (omega arith), rw (s, ← n) d)

    parts_placed : (y : Place) → Parts T (placed ps k y)
    parts_placed y =
        record {
          apart =
              placed_ind (λ j a. (m : ℕ) → m < length (placed ps k y) → Apart j a m (at (placed ps k y) m)) ps k y
              (placed_ind (λ m b. Apart k (with_place y (at ps k)) m b) ps k y (λ x e u v. refl) (λ m a d. i.apart k h m a))
              (λ j a d. placed_ind (λ m b. Apart j (at ps j) m b) ps k y (i.apart j a k h) (λ m b z. i.apart j a m b));
          cover = λ v x a b d. moved v x (i.cover v x a b d);
        }
      where
        moved : (v x : ℕ) → Covers ps v x → Covers (placed ps k y) v x
        moved v x (j, a, e, u, d) = go (ℕ_discrete j k)
          where
            go : Dec (j ≡ k) → Covers (placed ps k y) v x
            go (no n) = let s = at_unplaced ps k y j n in (j, rw length_placed a, rw s e, rw s u, rw s d)
            go (yes n) = let s = at_placed ps k y h in (k, rw length_placed h, rw (s, ← n) e, rw (s, ← n) u, rw (s, ← n) d)

  -- Lemma Split, for A1 to A4: it needs a proper split that tears no mention, and room
  module _ (cap : ℕ) (ps : List Piece) (i : Core T cap ps) (k : ℕ) (h : k < length ps) where
    pub core_split : (p : ℕ) → Cut g (at ps k) p → length ps < cap → Core T cap (split_pieces ms sp ps k p)
    core_split p c m =
        let s : Shape T (at ps k) = i.shape k h in
        record {
          room = omega (arith, length_split ms sp ps k p);
          all = omega (arith, i.all, length_split ms sp ps k p);
          firsts = λ m a. let o = split_same ps k p m h (omega (arith, i.all)) in (o.0 ∙ (i.firsts m a).0, o.1 ∙ (i.firsts m a).1);
          shape = split_ind ms sp (λ j q. Shape T q) ps k p h (shape_parent (at ps k) p s c) (shape_child (at ps k) p s c) (λ j a n. i.shape j a);
          parts = parts_split ps i.parts k h p c.above c.below;
        }

    pub core_placed : (w : Place) → Core T cap (placed ps k w)
    core_placed w =
        record {
          room = omega (arith, i.room, length_placed ps k w);
          all = omega (arith, i.all, length_placed ps k w);
          firsts = λ m a. elim (ℕ_discrete m k) [ yes e ↦ rw (e, at_placed ps k w h, ← e) (i.firsts m a) | no n ↦ rw (at_unplaced ps k w m n) (i.firsts m a) ];
          shape = placed_ind (λ j q. Shape T q) ps k w (i.shape k h) (λ j a n. i.shape j a);
          parts = parts_placed ps i.parts k h w;
        }
