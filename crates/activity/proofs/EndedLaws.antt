-- The active records sifted in place, from the first to the last. Assumes nothing.
use Prim.Native.Nat.{ℕ, ◌+◌, ◌≤◌, ◌<◌}
use mathlib.Core.Path.{◌≡◌, refl, sym, ap, subst, ◌∙◌}
use mathlib.Core.Bool.{Bool, true, false}
use mathlib.Core.List.{List, [], ◌∷◌, ◌++◌, append-nil}
use native.Mathlib.Omega.{arith}
use native.Mathlib.Numerals.{add-one}
use lib.ListN.{length, get_or, set, take, drop, length-set}
use lib.Seq.{take-suc, take-suc-set, drop-set-lt, drop-drop, get_or-drop, get_or-take}
use Rattle.words.specs.Choose.{choose}
use Rattle.rules.specs.declared.Piece.{Piece}
use Rattle.rules.specs.State.{no_piece}
use Rattle.rules.specs.Steps.{keep, drop_ended}
use Rattle.queue.specs.Heap.{Ord}
use Rattle.store.specs.declared.Counts.{Counts}
use Rattle.store.specs.Cells.{Cells, cells, with_active, Becomes, PieceAt}
use Rattle.store.specs.StateOf.{state_in, state_of, with_actives, Each, none, more, Sane, Ready}
use Rattle.store.proofs.CellLaws.{length_active}
use Rattle.store.proofs.SaneLaws.{each_at, sane_active}
use Rattle.store.proofs.StateLaws.{records_are, active_are}
use Rattle.activity.specs.Ended.{stays_at, stay_in, sifted, sifted_count, Movable, MovedUp, Dropped}

-- ---- lists
keep_snoc : (f : ℕ → Bool) (xs : List ℕ) (j : ℕ) → keep f (xs ++ (j ∷ [])) ≡ keep f xs ++ choose (f j) (j ∷ []) []
unfolding keep
keep_snoc f [] j = refl
keep_snoc f (x ∷ xs) j = go (f x) (keep_snoc f xs j)
  where
    go : (b : Bool) → keep f (xs ++ (j ∷ [])) ≡ keep f xs ++ choose (f j) (j ∷ []) []
        → choose b (x ∷ keep f (xs ++ (j ∷ []))) (keep f (xs ++ (j ∷ []))) ≡ choose b (x ∷ keep f xs) (keep f xs) ++ choose (f j) (j ∷ []) []
    go true ih = ap (λ (l : List ℕ). x ∷ l) ih
    go false ih = ih

-- tests that agree on the entries keep the same
keep_same : (P : ℕ → Type 0) (f g : ℕ → Bool) (xs : List ℕ) → Each P xs → ((x : ℕ) → P x → f x ≡ g x) → keep f xs ≡ keep g xs
unfolding keep
keep_same P f g [] e h = refl
keep_same P f g (x ∷ xs) (more p e) h = simp (h x p, keep_same P f g xs e h)

-- what is kept was there
each_keep : (P : ℕ → Type 0) (f : ℕ → Bool) (xs : List ℕ) → Each P xs → Each P (keep f xs)
unfolding keep
each_keep P f [] e = none
each_keep P f (x ∷ xs) (more p e) = go (f x) (each_keep P f xs e)
  where
    go : (b : Bool) → Each P (keep f xs) → Each P (choose b (x ∷ keep f xs) (keep f xs))
    go true ih = more p ih
    go false ih = ih

-- the first i entries of a list are sifted: `kept` of them stand in front, and from i on nothing has changed
pub record Sifting (f : ℕ → Bool) (js ks : List ℕ) (i kept : ℕ) : Type 0 where
  pub front : take kept ks ≡ keep f (take i js)
  pub back : drop i ks ≡ drop i js
  pub long : length ks ≡ length js
  pub low : kept ≤ i

sifting_starts : (f : ℕ → Bool) (js : List ℕ) → Sifting f js js 0 0
unfolding keep
sifting_starts f js = record { front = refl; back = refl; long = refl; low = omega arith }

module _ {f : ℕ → Bool} {js ks : List ℕ} {i kept : ℕ} (s : Sifting f js ks i kept) where
  -- entry i is still the old one
  sifting_entry : get_or ks i 0 ≡ get_or js i 0
  sifting_entry =
      let e : i + 0 ≡ i = omega arith in
      rw (get_or-drop i ks 0 0, get_or-drop i js 0 0, e) at (ap (λ (l : List ℕ). get_or l 0 0) s.back)

  sifting_later : drop (i + 1) ks ≡ drop (i + 1) js
  sifting_later = sym (drop-drop 1 i ks) ∙ ap (λ (l : List ℕ). drop 1 l) s.back ∙ drop-drop 1 i js

  sifting_more : i < length js → Sifting f js (sifted f ks i kept) (i + 1) (sifted_count f ks i kept)
  unfolding sifted sifted_count
  sifting_more h = go (f (get_or ks i 0)) refl
    where
      next : keep f (take (i + 1) js) ≡ keep f (take i js) ++ choose (f (get_or ks i 0)) (get_or ks i 0 ∷ []) []
      next = rw (add-one i, take-suc js i 0 h, sym sifting_entry) (keep_snoc f (take i js) (get_or ks i 0))

      go : (b : Bool) → f (get_or ks i 0) ≡ b → Sifting f js (choose b (set ks kept (get_or ks i 0)) ks) (i + 1) (choose b (kept + 1) kept)
      go true e =
          record {
            front = rw (next, e, add-one kept, take-suc-set ks kept (get_or ks i 0) (omega (arith, s.low, s.long))) (ap (λ (l : List ℕ). l ++ (get_or ks i 0 ∷ [])) s.front);
            back = rw (drop-set-lt (i + 1) ks kept (get_or ks i 0) (omega (arith, s.low))) sifting_later;
            long = rw length-set s.long;
            low = omega (arith, s.low);
          }
      go false e = record { front = rw (next, e, append-nil) s.front; back = sifting_later; long = s.long; low = omega (arith, s.low) }

-- ---- the work area
module _ (cap : ℕ) (ws : List ℕ) (i S j : ℕ) (q : Piece) (t : Bool) (a : j ≡ get_or (cells cap ws).active i 0) (p : PieceAt cap ws j q) (e : t ≡ stays_at S q) where
  -- what was read decides
  read_stays : stay_in (cells cap ws).pieces S (get_or (cells cap ws).active i 0) ≡ t
  read_stays = sym (e ∙ rw (p.is, a))

  pub up_moved : (ws' : List ℕ) (kept : ℕ) → t ≡ true → Becomes cap ws ws' (with_active (set (cells cap ws).active kept j) (cells cap ws)) → MovedUp cap ws ws' i kept S (kept + 1)
  unfolding sifted sifted_count
  up_moved ws' kept f b = record { is = rw (read_stays, f) (b.is ∙ rw a); count = rw (read_stays, f); room = b.room }

  pub not_moved : (kept : ℕ) → t ≡ false → MovedUp cap ws ws i kept S kept
  unfolding sifted sifted_count
  not_moved kept f = record { is = rw (read_stays, f) refl; count = rw (read_stays, f); room = refl }

-- the first i active records are sifted, and nothing else has changed
pub record Dropping (cap : ℕ) (ws : List ℕ) (c : Counts) (S : ℕ) (ws' : List ℕ) (kept i : ℕ) : Type 0 where
  pub same : cells cap ws' ≡ with_active (cells cap ws').active (cells cap ws)
  pub sift : Sifting (stay_in (cells cap ws).pieces S) (cells cap ws).active (cells cap ws').active i kept
  pub upto : i ≤ c.active
  pub room : length ws' ≡ length ws

pub dropping_starts : (cap : ℕ) (ws : List ℕ) (c : Counts) (S : ℕ) → Dropping cap ws c S ws 0 0
dropping_starts cap ws c S = record { same = refl; sift = sifting_starts _ _; upto = omega arith; room = refl }

module _ (cap : ℕ) (ws : List ℕ) (c : Counts) (S : ℕ) (ws' : List ℕ) (kept i : ℕ) (r : Ready cap ws c) (d : Dropping cap ws c S ws' kept i) where
  -- an active record names a record
  active_named : i < c.active → get_or (cells cap ws).active i 0 < c.records
  unfolding state_of
  active_named h =
      let m = each_at _ (state_of cap ws c).active i 0 r.sane.actives (omega (arith, active_are cap ws c r)) in
      omega (arith, m, get_or-take c.active (cells cap ws).active i 0 h, records_are cap ws c r)

  pub dropping_movable : i < c.active → Movable cap ws' i kept
  dropping_movable h =
      record {
        most = r.most;
        long = omega (arith, r.long, d.room);
        inside = omega (arith, r.held, r.records);
        low = d.sift.low;
        named = omega (arith, active_named h, sifting_entry d.sift, r.records);
      }

  pub dropping_more : (w : List ℕ) (k : ℕ) → i < c.active → MovedUp cap ws' w i kept S k → Dropping cap ws c S w k (i + 1)
  dropping_more w k h m =
      let e : (cells cap ws').pieces ≡ (cells cap ws).pieces = ap (λ (x : Cells). x.pieces) d.same in
      let f : (cells cap w).active ≡ sifted (stay_in (cells cap ws).pieces S) (cells cap ws').active i kept = rw e at (ap (λ (x : Cells). x.active) m.is) in
      let g : k ≡ sifted_count (stay_in (cells cap ws).pieces S) (cells cap ws').active i kept = rw e at m.count in
      let l : i < length (cells cap ws).active = omega (arith, length_active cap ws, r.held, r.records) in
      record {
        same = m.is ∙ ap (λ (x : Cells). with_active (sifted (stay_in (cells cap ws').pieces S) (cells cap ws').active i kept) x) d.same ∙ ap (λ (x : List ℕ). with_active x (cells cap ws)) (sym (ap (λ (x : Cells). x.active) m.is));
        sift = rw (f, g) (sifting_more d.sift l);
        upto = omega arith;
        room = m.room ∙ d.room;
      }

  -- what is kept is what rules keep
  dropping_active : c.active ≤ i → take kept (cells cap ws').active ≡ (drop_ended (state_of cap ws c) S).active
  unfolding state_of drop_ended
  dropping_active h =
      let e : i ≡ c.active = omega (arith, d.upto) in
      rw (d.sift.front, e)
      (keep_same (λ (j : ℕ). j < length (state_of cap ws c).pieces) _ _ (take c.active (cells cap ws).active) r.sane.actives
      (λ j l. rw (get_or-take c.records (cells cap ws).pieces j no_piece (omega (arith, l, records_are cap ws c r)))))

  pub dropping_ends : c.active ≤ i → Dropped cap ws ws' c S (with_actives kept c)
  dropping_ends h =
      record {
        after =
            record {
              is = is;
              ready =
                  record {
                    most = r.most;
                    long = omega (arith, r.long, d.room);
                    records = r.records;
                    held = omega (arith, r.held, d.sift.low, d.upto);
                    intervals = r.intervals;
                    few = r.few;
                    ordered = subst (λ (x : List ℕ). Ord x c.queued) (sym (ap (λ (x : Cells). x.heap) d.same)) r.ordered;
                    sane = rw is sane;
                  };
              records = refl;
              queued = refl;
              active = refl;
              intervals = refl;
              long = d.room;
            };
        fewer = omega (arith, d.sift.low, d.upto);
      }
    where
      is : state_of cap ws' (with_actives kept c) ≡ drop_ended (state_of cap ws c) S
      is =
          unfold state_of drop_ended in
          ap (λ (x : Cells). state_in x (with_actives kept c)) d.same ∙ rw (dropping_active h)

      sane : Sane c.intervals (drop_ended (state_of cap ws c) S)
      sane = unfold drop_ended in sane_active c.intervals (state_of cap ws c) r.sane _ (each_keep _ _ (state_of cap ws c).active r.sane.actives)
