-- The loops of the tracker. Assumes nothing.
use mathlib.Core.Path.{◌≡◌, refl, sym, ◌∙◌}
use mathlib.Core.Bool.{Bool, true}
use mathlib.Core.List.{List}
use Prim.Native.Nat.{ℕ, ◌+◌, ◌-◌, ◌≤◌, ◌<◌}
use native.Mathlib.Omega.{arith}
use native.Mathlib.Numerals.{add-one}
use lib.ListN.{length, get_or, set}
use lib.Seq.{get_or-set_other}
use borrow.Author.Tests.{lt-ltb, le-ltb}
use Rattle.words.specs.declared.Range.{Range}
use Rattle.words.specs.declared.Fragment.{Fragment}
use Rattle.words.specs.Packed.{range_in, fragment_in}
use Rattle.words.proofs.Fold.{one_less, none_left}
use Rattle.activity.specs.declared.Tracker.{Tracker}
use Rattle.activity.specs.Bits.{NoneSet}
use Rattle.activity.specs.Fixed.{stop_of, last_at}
use Rattle.activity.specs.Cursors.{cursor, with_active, with_cursor, left_of, moved, Moved, advanced_from, Ready, fresh_from, fresh_of}
use Rattle.activity.proofs.CursorLaws.{nothing_moves}

-- one cursor on its way
pub record Moving (fs : List ℕ) (S from stop f : ℕ) : Type 0 where
  pub is : moved fs S f (stop - f) ≡ moved fs S from (stop - from)
  pub upto : f ≤ stop

module _ {fs : List ℕ} {S from stop f : ℕ} (m : Moving fs S from stop f) where
  module _ (w : Fragment) (e : w ≡ fragment_in (get_or fs f 0)) (h : f < stop) where
    -- it passes a fragment that ends before S
    pub moving_more : w.last < S → Moving fs S from stop (f + 1)
    unfolding moved
    moving_more l =
        let a : last_at fs f < S = rw e at l in
        record { is = sym (rw (one_less f stop h, add-one f) (simp (lt-ltb (last_at fs f) S a))) ∙ m.is; upto = omega arith }

    -- it stops at one that does not
    pub moving_found : S ≤ w.last → Moved fs from stop S f
    unfolding moved
    moving_found l =
        let a : S ≤ last_at fs f = rw e at l in
        record { is = sym (rw (one_less f stop h) (simp (le-ltb (last_at fs f) S a))) ∙ m.is; high = m.upto }

  -- or past the last
  pub moving_ends : stop ≤ f → Moved fs from stop S stop
  unfolding moved
  moving_ends h = let e : stop ≡ f = omega (arith, m.upto) in record { is = e ∙ sym (rw (none_left f stop h) refl) ∙ m.is; high = omega arith }

-- nothing is ahead in the class
pub updating_none : {rs fs : List ℕ} {t : Tracker} {first count : ℕ} (S active : ℕ) (b : Bool) → Ready rs fs t first count → NoneSet t.ahead first count b → b ≡ true
    → with_active active t ≡ advanced_from rs fs S first count (with_active active t)
updating_none {rs} {fs} {t} {first} {count} S active b y n e =
    sym (nothing_moves rs fs S count first (with_active active t) (n.none e) (λ k a l. y.spent k (omega (arith, y.inside)) (n.none e k a l)))

-- the cursors of a class on their way
pub record Updating (rs fs : List ℕ) (S first count : ℕ) (a u : Tracker) (r : ℕ) : Type 0 where
  pub is : advanced_from rs fs S r (first + count - r) u ≡ advanced_from rs fs S first count a
  pub upto : r ≤ first + count
  pub high : (k : ℕ) → r ≤ k → k < length rs → cursor u k ≤ stop_of rs k

module _ {rs fs : List ℕ} {t : Tracker} {first count : ℕ} (y : Ready rs fs t first count) (r : ℕ) (h : r < first + count) where
  module _ (range : Range) (e : range ≡ range_in (get_or rs r 0)) where
    pub updating_more : {S : ℕ} {a u : Tracker} (f m' : ℕ) → Updating rs fs S first count a u r → Moved fs (cursor u r) (range.index + range.count) S f
        → m' ≡ left_of u.ahead r f (range.index + range.count)
        → Updating rs fs S first count a (record { active = u.active; ahead = m'; cursors = set u.cursors r f }) (r + 1)
    unfolding advanced_from
    updating_more {S} {a} {u} f m' g m w =
        let i : f ≡ moved fs S (cursor u r) (stop_of rs r - cursor u r) = rw e at m.is in
        record {
          is = rw (w, e, i) (sym (rw (one_less r (first + count) h, add-one r)) ∙ g.is);
          upto = omega arith;
          high = λ k b l. rw (get_or-set_other u.cursors r k f 0 (λ q. omega arith)) (g.high k (omega arith) l);
        }

pub updating_ends : {rs fs : List ℕ} {S first count : ℕ} {a u : Tracker} {r : ℕ} → Updating rs fs S first count a u r → first + count ≤ r
    → u ≡ advanced_from rs fs S first count a
unfolding advanced_from
updating_ends {first = first} {count = count} {r = r} g h = sym (rw (none_left r (first + count) h) refl) ∙ g.is

-- the cursors set one by one
pub record Setting (rs : List ℕ) (t : Tracker) (r : ℕ) : Type 0 where
  pub is : fresh_from rs r (length rs - r) t ≡ fresh_of rs
  pub upto : r ≤ length rs

pub setting_more : {rs : List ℕ} {t : Tracker} {r : ℕ} (range : Range) → Setting rs t r → range ≡ range_in (get_or rs r 0) → r < length rs
    → Setting rs (with_cursor t r range.index) (r + 1)
unfolding fresh_from
setting_more {rs} {t} {r} range g e h = record { is = rw e (sym (rw (one_less r (length rs) h, add-one r)) ∙ g.is); upto = omega arith }

pub setting_ends : {rs : List ℕ} {t : Tracker} {r : ℕ} → Setting rs t r → length rs ≤ r → t ≡ fresh_of rs
unfolding fresh_from
setting_ends {rs} {t} {r} g h = sym (rw (none_left r (length rs) h) refl) ∙ g.is
