-- Where a moved cursor stands, and what the cursors of a tracker know after an update. Assumes nothing.
use mathlib.Core.Path.{◌≡◌, refl, sym, ap, subst, ◌∙◌}
use mathlib.Core.Bool.{Bool, true, false}
use mathlib.Core.List.{List}
use Prim.Native.Nat.{ℕ, zero, suc, ◌+◌, ◌-◌, ◌≤◌, ◌<◌}
use native.Mathlib.Omega.{arith}
use native.Mathlib.Decide.{dec_le, dec_lt, ℕ_discrete}
use lib.Dec.{eqb}
use lib.ListN.{length, get_or, set, length-set}
use lib.Seq.{get_or-set_same, get_or-set_other, set-get_or}
use borrow.Author.Tests.{lt-ltb, le-ltb, eq-eqb, ne_eqb}
use Rattle.words.specs.declared.Range.{Range}
use Rattle.words.specs.Packed.{register_at, range_in}
use Rattle.rules.specs.Tables.{Tables}
use Rattle.rules.specs.Accepted.{InRange, Accepted}
use Rattle.activity.specs.declared.Tracker.{Tracker}
use Rattle.words.specs.Choose.{choose}
use Rattle.activity.specs.Bits.{has_bit, without_bit}
use Rattle.activity.specs.Fixed.{Fixed, Faced, stop_of, last_at}
use Rattle.activity.specs.Cursors.{cursor, with_active, with_cursor, left_of, with_moved, moved, advanced_from, advanced, Cursors, Here, Ready, Facing, fresh_from, fresh_of, none_active}
use Rattle.activity.proofs.BitLaws.{without_other, without_none, all_bits}

-- accepted tables have sound fixed tables
pub fixed_tables_lem : (T : Tables) → Accepted T → Fixed T.registers T.fragments
fixed_tables_lem T a =
    record {
      few = a.limits.registers;
      small = a.limits.fragments;
      inside = λ r h. (a.fixed r h).inside;
      ordered = λ r f h. (a.fixed r h).ordered f;
      ascending = λ r f k h. (a.fixed r h).ascending f k;
    }

-- r is where a cursor stops that moves from f over at most n fragments
record Stops (fs : List ℕ) (S f n r : ℕ) : Type 0 where
  low : f ≤ r
  high : r ≤ f + n
  past : (k : ℕ) → f ≤ k → k < r → last_at fs k < S
  here : r < f + n → S ≤ last_at fs r

module _ (fs : List ℕ) (S : ℕ) where
  moved_stops : (n f : ℕ) → Stops fs S f n (moved fs S f n)
  unfolding moved
  moved_stops zero f =
      record { low = omega arith; high = omega arith; past = λ k a b. absurd (omega arith); here = λ a. absurd (omega arith) }
  moved_stops (suc n) f = go (dec_lt (last_at fs f) S) (moved_stops n (suc f))
    where
      go : Dec (last_at fs f < S) → Stops fs S (suc f) n (moved fs S (suc f) n) → Stops fs S f (suc n) (moved fs S f (suc n))
      go (yes a) s =
          simp (lt-ltb (last_at fs f) S a)
          record {
            low = omega (arith, s.low);
            high = omega (arith, s.high);
            past = λ k b l. at k b l (ℕ_discrete f k);
            here = λ b. s.here (omega arith);
          }
        where
          at : (k : ℕ) → f ≤ k → k < moved fs S (suc f) n → Dec (f ≡ k) → last_at fs k < S
          at k b l (yes e) = rw (sym e) a
          at k b l (no d) = s.past k (omega arith) l
      go (no a) s =
          simp (le-ltb (last_at fs f) S (omega arith))
          record { low = omega arith; high = omega arith; past = λ k b l. absurd (omega arith); here = λ b. omega arith }

-- the cursor c of register r: it stands among the register's fragments, and those before it end before S
record Standing (rs fs : List ℕ) (S r c : ℕ) : Type 0 where
  low : (register_at rs r).index ≤ c
  high : c ≤ stop_of rs r
  past : (f : ℕ) → InRange (register_at rs r) f → f < c → last_at fs f < S

module _ {rs fs : List ℕ} {r : ℕ} where
  -- so it does at a later start
  standing_later : {S' S c : ℕ} → S' ≤ S → Standing rs fs S' r c → Standing rs fs S r c
  standing_later h s = record { low = s.low; high = s.high; past = λ f i l. omega (arith, s.past f i l) }

  -- and when it has moved
  standing_moved : {S c : ℕ} → Standing rs fs S r c → Standing rs fs S r (moved fs S c (stop_of rs r - c))
  standing_moved {S} {c} s = go (moved_stops fs S (stop_of rs r - c) c)
    where
      go : Stops fs S c (stop_of rs r - c) (moved fs S c (stop_of rs r - c)) → Standing rs fs S r (moved fs S c (stop_of rs r - c))
      go m =
          record {
            low = omega (arith, s.low, m.low);
            high = omega (arith, s.high, m.high);
            past = λ f i l. at f i l (dec_lt f c);
          }
        where
          at : (f : ℕ) → InRange (register_at rs r) f → f < moved fs S c (stop_of rs r - c) → Dec (f < c) → last_at fs f < S
          at f i l (yes b) = s.past f i b
          at f i l (no b) = m.past f (omega arith) l

module _ (rs fs : List ℕ) (S : ℕ) where
  advanced_long : (n r : ℕ) (t : Tracker) → length (advanced_from rs fs S r n t).cursors ≡ length t.cursors
  unfolding advanced_from
  advanced_long zero r t = refl
  advanced_long (suc n) r t = advanced_long n (suc r) _ ∙ simp length-set

  -- a cursor before or past the class stays
  advanced_before : (n r : ℕ) (t : Tracker) (k : ℕ) → k < r → cursor (advanced_from rs fs S r n t) k ≡ cursor t k
  unfolding advanced_from
  advanced_before zero r t k h = refl
  advanced_before (suc n) r t k h = advanced_before n (suc r) _ k (omega arith) ∙ get_or-set_other t.cursors r k _ 0 (λ e. omega arith)

  advanced_after : (n r : ℕ) (t : Tracker) (k : ℕ) → r + n ≤ k → cursor (advanced_from rs fs S r n t) k ≡ cursor t k
  unfolding advanced_from
  advanced_after zero r t k h = refl
  advanced_after (suc n) r t k h = advanced_after n (suc r) _ k (omega arith) ∙ get_or-set_other t.cursors r k _ 0 (λ e. omega arith)

  -- a cursor of the class moves
  advanced_in : (n r : ℕ) (t : Tracker) (k : ℕ) → r ≤ k → k < r + n → k < length t.cursors
      → cursor (advanced_from rs fs S r n t) k ≡ moved fs S (cursor t k) (stop_of rs k - cursor t k)
  unfolding advanced_from
  advanced_in zero r t k a b l = absurd (omega arith)
  advanced_in (suc n) r t k a b l =
      go (ℕ_discrete r k) (λ o. advanced_in n (suc r) (with_moved t r (moved fs S (cursor t r) (stop_of rs r - cursor t r)) (stop_of rs r)) k o (omega arith) (simp length-set l))
    where
      f : ℕ
      f = moved fs S (cursor t r) (stop_of rs r - cursor t r)

      go : Dec (r ≡ k) → (suc r ≤ k → cursor (advanced_from rs fs S (suc r) n (with_moved t r f (stop_of rs r))) k ≡ moved fs S (cursor (with_moved t r f (stop_of rs r)) k) (stop_of rs k - cursor (with_moved t r f (stop_of rs r)) k))
          → cursor (advanced_from rs fs S (suc r) n (with_moved t r f (stop_of rs r))) k ≡ moved fs S (cursor t k) (stop_of rs k - cursor t k)
      go (yes e) ih = rw (sym e) (advanced_before n (suc r) (with_moved t r f (stop_of rs r)) r (omega arith) ∙ get_or-set_same t.cursors r f 0 (omega arith))
      go (no d) ih = ih (omega arith) ∙ rw (get_or-set_other t.cursors r k f 0 (λ e. d (sym e)))

  -- a bit that is clear tells that no fragment is ahead: so it does after a cursor has moved
  abbrev Spent : Tracker → Type 0
  Spent t = (k : ℕ) → k < length rs → has_bit t.ahead k ≡ false → cursor t k ≡ stop_of rs k

  spent_moved : (r : ℕ) (t : Tracker) → r < length t.cursors → cursor t r ≤ stop_of rs r → Spent t → Spent (with_moved t r (moved fs S (cursor t r) (stop_of rs r - cursor t r)) (stop_of rs r))
  unfolding left_of moved
  spent_moved r t l h s k b e = at (ℕ_discrete r k) (ℕ_discrete f (stop_of rs r))
    where
      f : ℕ
      f = moved fs S (cursor t r) (stop_of rs r - cursor t r)

      other : (r ≡ k → ⊥) → has_bit (left_of t.ahead r f (stop_of rs r)) k ≡ has_bit t.ahead k
      other d = go (eqb f (stop_of rs r))
        where
          go : (c : Bool) → has_bit (choose c (without_bit t.ahead r) t.ahead) k ≡ has_bit t.ahead k
          go true = without_other t.ahead r k d
          go false = refl

      at : Dec (r ≡ k) → Dec (f ≡ stop_of rs r) → get_or (set t.cursors r f) k 0 ≡ stop_of rs k
      at (yes q) (yes g) = rw (sym q) (get_or-set_same t.cursors r f 0 l ∙ g)
      at (yes q) (no g) =
          let kept : left_of t.ahead r f (stop_of rs r) ≡ t.ahead = rw (ne_eqb f (stop_of rs r) g) refl in
          let was : has_bit t.ahead k ≡ false = ap (λ (m : ℕ). has_bit m k) (sym kept) ∙ e in
          let past : cursor t r ≡ stop_of rs r = subst (λ (n : ℕ). cursor t n ≡ stop_of rs n) (sym q) (s k b was) in
          absurd (g (let z : stop_of rs r - cursor t r ≡ 0 = omega arith in rw z past))
      at (no d) g = get_or-set_other t.cursors r k f 0 (λ q. d (sym q)) ∙ s k b (sym (other d) ∙ e)

-- and after all of a class have
spent_from : (rs fs : List ℕ) (S n r : ℕ) (t : Tracker) → r + n ≤ length rs → r + n ≤ length t.cursors → ((k : ℕ) → k < length rs → cursor t k ≤ stop_of rs k)
    → Spent rs fs S t → Spent rs fs S (advanced_from rs fs S r n t)
unfolding advanced_from
spent_from rs fs S zero r t i l h s = s
spent_from rs fs S (suc n) r t i l h s =
    spent_from rs fs S n (suc r) (with_moved t r f (stop_of rs r)) (omega arith) (let e : length (set t.cursors r f) ≡ length t.cursors = simp length-set in omega arith) (λ k b. at k b (ℕ_discrete r k))
    (spent_moved rs fs S r t (omega arith) (h r (omega arith)) s)
  where
    f : ℕ
    f = moved fs S (cursor t r) (stop_of rs r - cursor t r)

    at : (k : ℕ) → k < length rs → Dec (r ≡ k) → get_or (set t.cursors r f) k 0 ≤ stop_of rs k
    at k b (yes q) =
        let m : Stops fs S (cursor t r) (stop_of rs r - cursor t r) f = moved_stops fs S (stop_of rs r - cursor t r) (cursor t r) in
        rw (sym q) (let e : get_or (set t.cursors r f) r 0 ≡ f = get_or-set_same t.cursors r f 0 (omega arith) in omega (arith, e, m.high, h r (omega arith)))
    at k b (no d) = rw (get_or-set_other t.cursors r k f 0 (λ q. d (sym q))) (h k b)

-- where no register of the class has a fragment ahead, nothing moves
pub nothing_moves : (rs fs : List ℕ) (S n r : ℕ) (t : Tracker) → ((k : ℕ) → r ≤ k → k < r + n → has_bit t.ahead k ≡ false) → ((k : ℕ) → r ≤ k → k < r + n → cursor t k ≡ stop_of rs k)
    → advanced_from rs fs S r n t ≡ t
unfolding advanced_from moved left_of
nothing_moves rs fs S zero r t b s = refl
nothing_moves rs fs S (suc n) r t b s =
    let here : cursor t r ≡ stop_of rs r = s r (omega arith) (omega arith) in
    let none : stop_of rs r - cursor t r ≡ 0 = omega arith in
    let stays : moved fs S (cursor t r) (stop_of rs r - cursor t r) ≡ cursor t r = rw none refl in
    let bits : left_of t.ahead r (cursor t r) (stop_of rs r) ≡ t.ahead = rw (eq-eqb (cursor t r) (stop_of rs r) here) (without_none t.ahead r (b r (omega arith) (omega arith))) in
    let same : with_moved t r (moved fs S (cursor t r) (stop_of rs r - cursor t r)) (stop_of rs r) ≡ t = rw (stays, bits, set-get_or t.cursors r 0) refl in
    rw same (nothing_moves rs fs S n (suc r) t (λ k a l. b k (omega arith) (omega arith)) (λ k a l. s k (omega arith) (omega arith)))

spent_advanced : {rs fs : List ℕ} → Fixed rs fs → (first count : ℕ) → first + count ≤ length rs → {S' : ℕ} {t : Tracker} → Cursors rs fs S' t → (S active : ℕ)
    → Spent rs fs S (advanced rs fs t first count S active)
spent_advanced {rs} {fs} x first count i {t = t} c S active =
    spent_from rs fs S count first (with_active active t) i (omega (arith, x.few, c.long)) c.high c.spent

module _ {rs fs : List ℕ} (x : Fixed rs fs) (first count : ℕ) (i : first + count ≤ length rs) {S' : ℕ} {t : Tracker} (c : Cursors rs fs S' t) where
  -- what the update asks
  pub ready : Ready rs fs t first count
  ready = record { fixed = x; inside = i; high = c.high; spent = c.spent }

  module _ (S active : ℕ) (l : S' ≤ S) where
    standing : (r : ℕ) → r < length rs → Standing rs fs S r (cursor (advanced rs fs t first count S active) r)
    standing r h = go (dec_le first r) (dec_lt r (first + count))
      where
        was : Standing rs fs S r (cursor t r)
        was = standing_later l record { low = c.low r h; high = c.high r h; past = λ f. c.past r f h }

        go : Dec (first ≤ r) → Dec (r < first + count) → Standing rs fs S r (cursor (advanced rs fs t first count S active) r)
        go (yes a) (yes b) = rw (advanced_in rs fs S count first (with_active active t) r a b (omega (arith, x.few, c.long))) (standing_moved was)
        go (yes a) (no b) = rw (advanced_after rs fs S count first (with_active active t) r (omega arith)) was
        go (no a) b = rw (advanced_before rs fs S count first (with_active active t) r (omega arith)) was

    -- the cursors know the new start
    pub updated_cursors : Cursors rs fs S (advanced rs fs t first count S active)
    updated_cursors =
        record {
          long = advanced_long rs fs S count first (with_active active t) ∙ c.long;
          low = λ r h. (standing r h).low;
          high = λ r h. (standing r h).high;
          past = λ r f h. (standing r h).past f;
          spent = spent_advanced x first count i c S active;
        }

    updated_here : Here rs fs S first count (advanced rs fs t first count S active)
    updated_here =
        record {
          here = λ r a b.
              let h : r < 64 = omega (arith, x.few, i) in
              let m : Stops fs S (cursor t r) (stop_of rs r - cursor t r) (moved fs S (cursor t r) (stop_of rs r - cursor t r)) = moved_stops fs S (stop_of rs r - cursor t r) (cursor t r) in
              let k : cursor t r ≤ stop_of rs r = c.high r (omega (arith, i)) in
              rw (advanced_in rs fs S count first (with_active active t) r a b (omega (arith, c.long))) (λ q. m.here (omega arith));
        }

    -- and the class's stand at the first fragment that does not end before it
    pub updated_facing : Facing rs fs S first count (advanced rs fs t first count S active)
    updated_facing = record { fixed = x; inside = i; cursors = updated_cursors; here = updated_here }

-- so many cursors are set as there are registers
fresh_long : (rs : List ℕ) (n r : ℕ) (t : Tracker) → length (fresh_from rs r n t).cursors ≡ length t.cursors
unfolding fresh_from
fresh_long rs zero r t = refl
fresh_long rs (suc n) r t = fresh_long rs n (suc r) _ ∙ simp length-set

fresh_ahead : (rs : List ℕ) (n r : ℕ) (t : Tracker) → (fresh_from rs r n t).ahead ≡ t.ahead
unfolding fresh_from
fresh_ahead rs zero r t = refl
fresh_ahead rs (suc n) r t = fresh_ahead rs n (suc r) _

fresh_before : (rs : List ℕ) (n r : ℕ) (t : Tracker) (k : ℕ) → k < r → cursor (fresh_from rs r n t) k ≡ cursor t k
unfolding fresh_from
fresh_before rs zero r t k h = refl
fresh_before rs (suc n) r t k h = fresh_before rs n (suc r) _ k (omega arith) ∙ get_or-set_other t.cursors r k _ 0 (λ e. omega arith)

fresh_in : (rs : List ℕ) (n r : ℕ) (t : Tracker) (k : ℕ) → r ≤ k → k < r + n → k < length t.cursors → cursor (fresh_from rs r n t) k ≡ (register_at rs k).index
unfolding fresh_from
fresh_in rs zero r t k a b l = absurd (omega arith)
fresh_in rs (suc n) r t k a b l =
    go (ℕ_discrete r k) (λ o. fresh_in rs n (suc r) (with_cursor t r (register_at rs r).index) k o (omega arith) (simp length-set l))
  where
    go : Dec (r ≡ k) → (suc r ≤ k → cursor (fresh_from rs (suc r) n (with_cursor t r (register_at rs r).index)) k ≡ (register_at rs k).index)
        → cursor (fresh_from rs (suc r) n (with_cursor t r (register_at rs r).index)) k ≡ (register_at rs k).index
    go (yes e) ih = rw (sym e) (fresh_before rs n (suc r) (with_cursor t r (register_at rs r).index) r (omega arith) ∙ get_or-set_same t.cursors r (register_at rs r).index 0 (omega arith))
    go (no d) ih = ih (omega arith)

-- at the beginning nothing lies before a cursor
pub fresh_cursors : (rs fs : List ℕ) → Fixed rs fs → Cursors rs fs 0 (fresh_of rs)
fresh_cursors rs fs x =
    record {
      long = fresh_long rs (length rs) 0 none_active;
      low = λ r h. rw (at r h) (omega arith);
      high = λ r h. rw (at r h) (omega arith);
      past = λ r f h i l. let e : cursor (fresh_of rs) r ≡ (register_at rs r).index = at r h in absurd (omega (arith, i.0));
      spent = λ r h e.
          let all : has_bit (fresh_of rs).ahead r ≡ true = rw (fresh_ahead rs (length rs) 0 none_active) (all_bits r (omega (arith, x.few))) in
          let z : true ≡ false = sym all ∙ e in
          absurd (true_false z);
    }
  where
    true_false : true ≡ false → ⊥
    true_false e = let z : ◌≡◌ {A = ℕ} 0 1 = cc in omega arith

    at : (r : ℕ) → r < length rs → cursor (fresh_of rs) r ≡ (register_at rs r).index
    at r h = fresh_in rs (length rs) 0 none_active r (omega arith) (omega arith) (omega (arith, x.few))

-- each cursor of the class, with its register's range, is as fixed_position asks
pub facing_faced : {rs fs : List ℕ} {S first count : ℕ} {t : Tracker} → Facing rs fs S first count t → (r : ℕ) → first ≤ r → r < first + count
    → (range : Range) → range ≡ range_in (get_or rs r 0) → Faced fs range (cursor t r) S
facing_faced {rs} y r a b range e =
    let h : r < length rs = omega (arith, y.inside) in
    rw e
    record {
      inside = y.fixed.inside r h;
      low = y.cursors.low r h;
      high = y.cursors.high r h;
      ordered = λ f. y.fixed.ordered r f h;
      ascending = λ f k. y.fixed.ascending r f k h;
      past = λ f. y.cursors.past r f h;
      here = y.here.here r a b;
    }
