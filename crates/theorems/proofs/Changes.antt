-- The small changes of a state, each with what it keeps of the invariant: split, queue, give a place, and the record that the invariant leaves out for a while.
-- Assumes accepted tables.
use Rattle.std.specs.Prelude.{Option, None, Some}
use Prim.Native.Nat.{ℕ, suc, ◌+◌, ◌*◌, ◌≤◌, ◌<◌}
use mathlib.Core.Path.{◌≡◌, refl, sym, ap, ◌∙◌}
use mathlib.Core.Logic.{◌≢◌, ◌⊎◌, inl, inr, ⊎_elim}
use mathlib.Core.Bool.{◌&&◌}
use mathlib.Core.List.{List, ◌∷◌, Memᴰ}
use native.Mathlib.Omega.{arith}
use native.Mathlib.Decide.{ℕ_discrete, dec_lt}
use borrow.Author.Tests.{le-leb}
use lib.Dec.{leb}
use lib.ListN.{length, get_or}
use Rattle.words.specs.Points.{def_point}
use Rattle.rules.specs.declared.Piece.{Piece}
use Rattle.rules.specs.declared.Place.{Place}
use Rattle.rules.specs.declared.Place.TheVariants.{Nowhere, Register, Slot}
use Rattle.rules.specs.Tables.{Tables}
use Rattle.rules.specs.Accepted.{InRange, safepoint, Accepted}
use Rattle.rules.specs.State.{Given, State, with_queue, record_of_key, insert, enqueue, put}
use Rattle.rules.specs.Split.{parent, split_pieces, staying_mentions, staying_safepoints}
use Rattle.rules.specs.Steps.{keep, in_register, drop_ended, take_register}
use Rattle.rules.proofs.Keeps.{split_state}
use Rattle.theorems.specs.Invariant.{Asc, at, In, Clash, Queued, IsSpilled, first_point, last_point, use_at, Shape, SafeOf, Held, Slots, Inv, Cut, Clear}
use Rattle.theorems.proofs.RunLaws.{CutAt}
use Rattle.theorems.proofs.ListLaws.{mem_left, insert_new, insert_old, insert_is, asc_low, asc_from, asc_insert, keep_has}
use Rattle.theorems.proofs.PieceLaws.{placed, length_placed, at_placed, at_unplaced, placed_ind, length_split, split_ind}
use Rattle.theorems.proofs.TableLaws.{at_points, cut_mentions, cut_safepoints}
use Rattle.theorems.proofs.Parts.{split_same, core_split, core_placed}

-- those of X, and j
abbrev pub Or : (ℕ → Type 0) → ℕ → ℕ → Type 0
Or X j m = X m ⊎ (m ≡ j)

-- one place is not another
pub nowhere_register : {A : Type 0} (w : Place) (r : ℕ) → w ≡ Nowhere → w ≡ Register r → A
nowhere_register w r a b = let z : ◌≡◌ {A = ℕ} 0 1 = cc in absurd (omega arith)

pub nowhere_slot : {A : Type 0} (w : Place) (t : ℕ) → w ≡ Nowhere → w ≡ Slot t → A
nowhere_slot w t a b = let z : ◌≡◌ {A = ℕ} 0 1 = cc in absurd (omega arith)

pub register_slot : {A : Type 0} (w : Place) (r t : ℕ) → w ≡ Register r → w ≡ Slot t → A
register_slot w r t a b = let z : ◌≡◌ {A = ℕ} 0 1 = cc in absurd (omega arith)

-- what is a slot stays one
abbrev pub Within : List (Option ℕ) → List (Option ℕ) → Type 0
Within hs hs' = (v t : ℕ) → get_or hs v None ≡ Some t → get_or hs' v None ≡ Some t

abbrev pub Among : List ℕ → List ℕ → Type 0
Among xs ys = (x : ℕ) → Memᴰ x xs → Memᴰ x ys

module _ (T : Tables) where
  -- more keys, more active records, more slots: what holds by place still does
  pub held_more : (l k : ℕ) (qs qs' av av' : List ℕ) (hs hs' : List (Option ℕ)) → Among qs qs' → Among av av' → Within hs hs' → (q : Piece) (w : Place)
      → Held T l qs av hs k q w → Held T l qs' av' hs' k q w
  held_more l k qs qs' av av' hs hs' a b c q Nowhere h = (h.0, a _ h.1)
  held_more l k qs qs' av av' hs hs' a b c q (Register r) h = record { usable = h.usable; begun = h.begun; tracked = λ e. b _ (h.tracked e); unfixed = h.unfixed; safe = h.safe }
  held_more l k qs qs' av av' hs hs' a b c q (Slot t) h = (h.0, c _ _ h.1)

module _ (g : Given) (ok : Accepted g.tables) where
  abbrev T : Tables
  T = g.tables

  abbrev ms : List ℕ
  ms = g.tables.mentions

  abbrev sp : List ℕ
  sp = g.tables.safepoints

  -- E1 through a split where no mention point lies: Def of a safepoint below p is not p, so it stays
  safe_parent : (q : Piece) (p : ℕ) → Shape T q → Clear g q p → SafeOf T q.interval q.mentions q.safepoints → SafeOf T (parent ms sp q p).interval (parent ms sp q p).mentions (parent ms sp q p).safepoints
  safe_parent q p s c f e n = go (f e (omega (arith, cs.high)))
    where
      cm : CutAt (first_point T) p q.mentions.index (q.mentions.index + q.mentions.count) (q.mentions.index + staying_mentions ms sp q p)
      cm = cut_mentions T ok q s p

      cs : CutAt (use_at T) p q.safepoints.index (q.safepoints.index + q.safepoints.count) (q.safepoints.index + staying_safepoints ms sp q p)
      cs = cut_safepoints T ok q s p

      go : (j : ℕ) × InRange q.mentions j × (last_point T j ≡ def_point (safepoint T q.safepoints.index))
          → (j : ℕ) × InRange (parent ms sp q p).mentions j × (last_point T j ≡ def_point (safepoint T q.safepoints.index))
      go (j, a, d) =
          let u : use_at T q.safepoints.index < p = cs.below q.safepoints.index (omega arith) (omega arith) in
          let up = (at_points T ok q s j a).up in
          let b : last_point T j < p = omega (arith, (c j a).1) in
          let in-time : j < q.mentions.index + staying_mentions ms sp q p = elim (dec_lt j (q.mentions.index + staying_mentions ms sp q p)) [ yes x ↦ x | no x ↦ absurd (omega (arith, cm.above j (omega arith) a.1)) ] in
          (j, (a.0, in-time), d)

  held_parent : (l k p : ℕ) (qs av : List ℕ) (hs : List (Option ℕ)) (q : Piece) → Shape T q → Clear g q p → p ≤ q.end → (w : Place) → Held T l qs av hs k q w → Held T l qs av hs k (parent ms sp q p) w
  held_parent l k p qs av hs q s c b Nowhere h = h
  held_parent l k p qs av hs q s c b (Register r) h = record { usable = h.usable; begun = h.begun; tracked = λ e. h.tracked (omega arith); unfixed = λ f o x u v. h.unfixed f o x u (omega arith); safe = safe_parent q p s c h.safe }
  held_parent l k p qs av hs q s c b (Slot t) h = (omega (arith, h.0, (cut_mentions T ok q s p).high), h.1)

  -- Lemma Split: the child is left out until it is queued or spilled
  pub inv_split : (l : ℕ) (X : ℕ → Type 0) (s : State) (k p : ℕ) → Inv g l X s → k < length s.pieces → Cut g (at s.pieces k) p → X k ⊎ Clear g (at s.pieces k) p
      → length s.pieces < g.capacity → Inv g l (Or X (length s.pieces)) (split_state g s k p)
  inv_split l X s k p i h c e room =
      record {
        core = core_split g ok g.capacity ps i.core k h p c room;
        held = split_ind ms sp (λ m q. (Or X n m → ⊥) → Held T l s.queue s.active s.homes m q q.place) ps k p h
            (λ x. ⊎_elim (λ (y : X k). absurd (x (inl y))) (λ (y : Clear g (at ps k) p). held_parent l k p _ _ _ (at ps k) (i.core.shape k h) y c.below (at ps k).place (i.held k h (λ z. x (inl z)))) e)
            (λ x. absurd (x (inr refl)))
            (λ m a d x. i.held m a (λ y. x (inl y)));
        alone = split_ind ms sp (λ j a. (Or X n j → ⊥) → (m : ℕ) → m < length qs → (Or X n m → ⊥) → Clash j a m (at qs m)) ps k p h
            (λ x. split_ind ms sp (λ m b. (Or X n m → ⊥) → Clash k (parent ms sp (at ps k) p) m b) ps k p h (λ y r z a b u v. refl) (λ y r z a b u v. nowhere_register _ r refl b)
            (λ m a d y r z e f u v. i.alone k h (λ o. x (inl o)) m a (λ o. y (inl o)) r z e f (omega (arith, c.below)) v))
            (λ x m a y r z e f u v. nowhere_register _ r refl e)
            (λ j a d x. split_ind ms sp (λ m b. (Or X n m → ⊥) → Clash j (at ps j) m b) ps k p h (λ y r z e f u v. i.alone j a (λ o. x (inl o)) k h (λ o. y (inl o)) r z e f u (omega (arith, c.below)))
            (λ y r z e f u v. nowhere_register _ r refl f) (λ m b o y. i.alone j a (λ o. x (inl o)) m b (λ o. y (inl o))));
        ordered = i.ordered;
        queued = λ x m. let q = i.queued x m in let o = split_same g ok ps k p (record_of_key x) h q.here in record { here = omega (arith, q.here, longer); free = o.2 ∙ q.free; key = rw o.1 q.key };
        waiting = λ x m. ⊎_elim (λ (y : X (record_of_key x)). i.waiting x m y) (λ (y : record_of_key x ≡ n). omega (arith, (i.queued x m).here));
        slots = i.slots;
        used = λ v t e. moved v t (i.used v t e);
      }
    where
      ps : List Piece
      ps = s.pieces

      qs : List Piece
      qs = split_pieces ms sp s.pieces k p

      n : ℕ
      n = length s.pieces

      longer : length (split_pieces ms sp s.pieces k p) ≡ length s.pieces + 1
      longer = length_split ms sp s.pieces k p

      moved : (v t : ℕ) → IsSpilled s.pieces v t → IsSpilled (split_pieces ms sp s.pieces k p) v t
      moved v t (j, a, b, d) = let o = split_same g ok s.pieces k p j h a in (j, omega (arith, longer), o.0 ∙ b, o.2 ∙ d)

  -- a record without a place is queued
  pub inv_enqueue : (l : ℕ) (X : ℕ → Type 0) (s : State) (m : ℕ) → Inv g l (Or X m) s → (X m → ⊥) → m < length s.pieces → m < 16384 → (at s.pieces m).place ≡ Nowhere → l ≤ (at s.pieces m).start
      → Inv g l X (enqueue s m)
  unfolding enqueue
  inv_enqueue l X s m i no-m h w p b =
      record {
        core = i.core;
        held = λ k a x. by k a x (ℕ_discrete k m);
        alone = λ j a x k d y r z e f u v. i.alone j a (other j x r e) k d (other k y r f) r z e f u v;
        ordered = asc_insert 0 ((at s.pieces m).start * 16384 + m) s.queue (omega arith) i.ordered (λ y. i.waiting _ y (inr back));
        queued = λ x y. ⊎_elim (λ (e : x ≡ (at s.pieces m).start * 16384 + m). rw e (record { here = rw back h; free = rw back p; key = rw back refl })) (λ (o : Memᴰ x s.queue). i.queued x o) (insert_is _ s.queue y);
        waiting = λ x y z. ⊎_elim (λ (e : x ≡ (at s.pieces m).start * 16384 + m). no-m (rw (e, back) at z)) (λ (o : Memᴰ x s.queue). i.waiting x o (inl z)) (insert_is _ s.queue y);
        slots = i.slots;
        used = i.used;
      }
    where
      back : record_of_key ((at s.pieces m).start * 16384 + m) ≡ m
      back = omega arith

      other : (j : ℕ) → (X j → ⊥) → (r : ℕ) → (at s.pieces j).place ≡ Register r → Or X m j → ⊥
      other j x r e (inl y) = x y
      other j x r e (inr y) = nowhere_register (at s.pieces j).place r (rw y p) e

      by : (k : ℕ) → k < length s.pieces → (X k → ⊥) → Dec (k ≡ m) → Held T l (insert ((at s.pieces m).start * 16384 + m) s.queue) s.active s.homes k (at s.pieces k) (at s.pieces k).place
      by k a x (yes e) = rw e (rw p (b, insert_new _ s.queue))
      by k a x (no e) = held_more T l k _ _ _ _ _ _ (λ y o. insert_old _ s.queue o) (λ y o. o) (λ v t o. o) (at s.pieces k) (at s.pieces k).place (i.held k a (λ o. ⊎_elim (λ (y : X k). x y) (λ (y : k ≡ m). e y) o))

  -- a record that is left out, and has no slot, is given a place
  pub inv_place : (l : ℕ) (X : ℕ → Type 0) (s s' : State) (j : ℕ) (w : Place) → Inv g l X s → X j → j < length s.pieces → ((t : ℕ) → (at s.pieces j).place ≢ Slot t)
      → s'.pieces ≡ placed s.pieces j w → s'.queue ≡ s.queue → Among s.active s'.active → Within s.homes s'.homes → Slots T s'.homes s'.total
      → ((v t : ℕ) → get_or s'.homes v None ≡ Some t → (((at s.pieces j).interval ≡ v) × (w ≡ Slot t)) ⊎ (get_or s.homes v None ≡ Some t)) → Inv g l X s'
  inv_place l X s s' j w i xj h n ep eq ea eh sl us =
      record {
        core = rw ep (core_placed g ok g.capacity s.pieces i.core j h w);
        held = rw ep (placed_ind (λ m q. (X m → ⊥) → Held T l s'.queue s'.active s'.homes m q q.place) s.pieces j w (λ x. absurd (x xj))
            (λ m a d x. rw eq (held_more T l m _ _ _ _ _ _ (λ y o. o) ea eh (at s.pieces m) (at s.pieces m).place (i.held m a x))));
        alone = rw ep (placed_ind (λ a q. (X a → ⊥) → (m : ℕ) → m < length (placed s.pieces j w) → (X m → ⊥) → Clash a q m (at (placed s.pieces j w) m)) s.pieces j w (λ x. absurd (x xj))
            (λ a b d x. placed_ind (λ m q. (X m → ⊥) → Clash a (at s.pieces a) m q) s.pieces j w (λ y. absurd (y xj)) (λ m c e y. i.alone a b x m c y)));
        ordered = rw eq i.ordered;
        queued = rw (eq, ep) (λ x m. let q = i.queued x m in let o = at_unplaced s.pieces j w (record_of_key x) (λ e. i.waiting x m (rw e xj)) in record { here = rw length_placed q.here; free = rw o q.free; key = rw o q.key });
        waiting = rw eq i.waiting;
        slots = sl;
        used = λ v t e. rw ep (⊎_elim (λ (o : ((at s.pieces j).interval ≡ v) × (w ≡ Slot t)). here v t o.0 o.1) (λ (o : get_or s.homes v None ≡ Some t). moved v t (i.used v t o)) (us v t e));
      }
    where
      here : (v t : ℕ) → (at s.pieces j).interval ≡ v → w ≡ Slot t → IsSpilled (placed s.pieces j w) v t
      here v t a b = let o = at_placed s.pieces j w h in (j, rw length_placed h, rw o a, rw o b)

      moved : (v t : ℕ) → IsSpilled s.pieces v t → IsSpilled (placed s.pieces j w) v t
      moved v t (k, a, b, c) = let o = at_unplaced s.pieces j w k (λ d. n t (rw d at c)) in (k, rw length_placed a, rw o b, rw o c)

  -- step 3 and 4: record k takes register r; it is left out still
  pub inv_take : (l : ℕ) (X : ℕ → Type 0) (s : State) (k r : ℕ) → Inv g l X s → X k → k < length s.pieces → (at s.pieces k).place ≡ Nowhere → Inv g l X (take_register s k r)
  unfolding take_register put placed
  inv_take l X s k r i x h p =
      inv_place l X s (take_register s k r) k (Register r) i x h (λ t e. nowhere_slot (at s.pieces k).place t p e) refl refl (λ y m. mem_left s.active _ m) (λ v t e. e) i.slots (λ v t e. inr e)

  -- a record that is not waiting is left out
  pub inv_leave : (l : ℕ) (X : ℕ → Type 0) (s : State) (j : ℕ) → Inv g l X s → X j ⊎ ((at s.pieces j).place ≢ Nowhere) → Inv g l (Or X j) s
  inv_leave l X s j i o =
      record {
        core = i.core;
        held = λ k a x. i.held k a (λ y. x (inl y));
        alone = λ a b x k d y. i.alone a b (λ z. x (inl z)) k d (λ z. y (inl z));
        ordered = i.ordered;
        queued = i.queued;
        waiting = λ x m. ⊎_elim (λ (y : X (record_of_key x)). i.waiting x m y) (λ (e : record_of_key x ≡ j). ⊎_elim (λ (y : X j). i.waiting x m (rw e y)) (λ (n : (at s.pieces j).place ≢ Nowhere). n (rw e at (i.queued x m).free)) o);
        slots = i.slots;
        used = i.used;
      }

  -- a record that was left out has what its place asks
  pub inv_settle : (l : ℕ) (X : ℕ → Type 0) (s : State) (j : ℕ) → Inv g l (Or X j) s → Held T l s.queue s.active s.homes j (at s.pieces j) (at s.pieces j).place
      → ((r : ℕ) → (at s.pieces j).place ≡ Register r → (m : ℕ) → m < length s.pieces → (X m → ⊥) → m ≢ j → (at s.pieces m).place ≡ Register r → (x : ℕ) → In x (at s.pieces j) → In x (at s.pieces m) → ⊥)
      → Inv g l X s
  inv_settle l X s j i h f =
      record {
        core = i.core;
        held = λ k a x. held k a x (ℕ_discrete k j);
        alone = λ a b x k d y r z e e' u v. alone a b x k d y r z e e' u v (ℕ_discrete a j) (ℕ_discrete k j);
        ordered = i.ordered;
        queued = i.queued;
        waiting = λ x m y. i.waiting x m (inl y);
        slots = i.slots;
        used = i.used;
      }
    where
      out : (k : ℕ) → (X k → ⊥) → k ≢ j → Or X j k → ⊥
      out k x n (inl y) = x y
      out k x n (inr y) = n y

      held : (k : ℕ) → k < length s.pieces → (X k → ⊥) → Dec (k ≡ j) → Held T l s.queue s.active s.homes k (at s.pieces k) (at s.pieces k).place
      held k a x (yes e) = rw e h
      held k a x (no n) = i.held k a (out k x n)

      alone : (a : ℕ) → a < length s.pieces → (X a → ⊥) → (k : ℕ) → k < length s.pieces → (X k → ⊥) → (r x : ℕ) → (at s.pieces a).place ≡ Register r → (at s.pieces k).place ≡ Register r
          → In x (at s.pieces a) → In x (at s.pieces k) → Dec (a ≡ j) → Dec (k ≡ j) → a ≡ k
      alone a b x k d y r z e e' u v (yes o) (yes o') = o ∙ sym o'
      alone a b x k d y r z e e' u v (yes o) (no o') = absurd (f r (rw o at e) k d y o' e' z (rw o at u) v)
      alone a b x k d y r z e e' u v (no o) (yes o') = absurd (f r (rw o' at e') a b x o e z (rw o' at v) u)
      alone a b x k d y r z e e' u v (no o) (no o') = i.alone a b (out a x o) k d (out k y o') r z e e' u v

  -- step 1: what has ended, and what is spilled, is dropped
  pub inv_drop : (S : ℕ) (X : ℕ → Type 0) (s : State) → Inv g S X s → Inv g S X (drop_ended s S)
  unfolding drop_ended
  inv_drop S X s i =
      record {
        core = i.core;
        held = λ k a x. go k (at s.pieces k).place refl (i.held k a x);
        alone = i.alone;
        ordered = i.ordered;
        queued = i.queued;
        waiting = i.waiting;
        slots = i.slots;
        used = i.used;
      }
    where
      go : (k : ℕ) (w : Place) → (at s.pieces k).place ≡ w → Held T S s.queue s.active s.homes k (at s.pieces k) w
          → Held T S s.queue (keep (λ j. in_register (at s.pieces j).place && leb S (at s.pieces j).end) s.active) s.homes k (at s.pieces k) w
      go k Nowhere e h = h
      go k (Register r) e h =
          record {
            usable = h.usable;
            begun = h.begun;
            tracked = λ l. keep_has (λ j. in_register (at s.pieces j).place && leb S (at s.pieces j).end) s.active (h.tracked l) (rw e (le-leb S (at s.pieces k).end (omega arith)));
            unfixed = h.unfixed;
            safe = h.safe;
          }
      go k (Slot t) e h = h

  -- a pop: the last start moves on, and the popped record is left out
  pub inv_pop : (l : ℕ) (s : State) (X : ℕ → Type 0) (x : ℕ) (xs : List ℕ) → g.capacity ≤ 16384 → Inv g l X s → s.queue ≡ x ∷ xs → Inv g (at s.pieces (record_of_key x)).start (Or X (record_of_key x)) (with_queue xs s)
  inv_pop l s X x xs small i e =
      record {
        core = i.core;
        held = λ m a y. go m a (λ d. y (inr d)) (at s.pieces m).place refl (i.held m a (λ z. y (inl z)));
        alone = λ j a y m b z. i.alone j a (λ o. y (inl o)) m b (λ o. z (inl o));
        ordered = asc_from 0 (suc x) xs (omega arith) asc.1;
        queued = λ y m. i.queued y (rw e (Memᴰ.tail m));
        waiting = λ y m. ⊎_elim (λ (o : X (record_of_key y)). i.waiting y (rw e (Memᴰ.tail m)) o) (λ (d : record_of_key y ≡ record_of_key x). let q = i.queued y (rw e (Memᴰ.tail m)) in let low = asc_low (suc x) xs asc.1 m in let f : y ≡ x = q.key ∙ rw d (sym qx.key) in omega arith);
        slots = i.slots;
        used = i.used;
      }
    where
      asc : Asc 0 (x ∷ xs)
      asc = rw e at i.ordered

      qx : Queued s.pieces x
      qx = i.queued x (rw e (Memᴰ.head refl))

      there : l ≤ (at s.pieces (record_of_key x)).start
      there = let h = i.held (record_of_key x) qx.here (λ y. i.waiting x (rw e (Memᴰ.head refl)) y) in (rw qx.free at h).0

      later : (m : ℕ) → m ≢ record_of_key x → m < 16384 → (y : ℕ) → y ≡ (at s.pieces m).start * 16384 + m → Memᴰ y (x ∷ xs) → ((at s.pieces (record_of_key x)).start ≤ (at s.pieces m).start) × Memᴰ y xs
      later m n b y d (Memᴰ.head o) = absurd (n (let f : record_of_key y ≡ m = omega arith in sym f ∙ ap record_of_key o))
      later m n b y d (Memᴰ.tail o) = (omega (arith, asc_low (suc x) xs asc.1 o, qx.key), o)

      go : (m : ℕ) → m < length s.pieces → m ≢ record_of_key x → (w : Place) → (at s.pieces m).place ≡ w → Held T l s.queue s.active s.homes m (at s.pieces m) w
          → Held T (at s.pieces (record_of_key x)).start xs s.active s.homes m (at s.pieces m) w
      go m a n Nowhere o h = later m n (omega (arith, i.core.room)) _ refl (rw e at h.1)
      go m a n (Register r) o h = record { usable = h.usable; begun = omega (arith, h.begun, there); tracked = λ d. h.tracked (omega (arith, there)); unfixed = h.unfixed; safe = h.safe }
      go m a n (Slot t) o h = h
