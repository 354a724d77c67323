-- The activity tracker: how many records are active, and for each register a cursor into the fragment table, before which all of its fragments end before the last start, and a bit, clear only where no fragment is ahead.
-- Document 01, "ActivityTracker" and step 1 ("a register is fixed-active if a fragment contains S"): facts for contracts.
use Rattle.std.specs.Prelude.{ℕ, zero, suc, ◌+◌, ◌-◌, ◌≤◌, ◌<◌, ◌≡◌, false, List, length, get_or, set, replicate, ltb, eqb}
use Rattle.words.specs.Choose.{choose}
use Rattle.words.specs.Packed.{register_at}
use Rattle.rules.specs.Accepted.{InRange}
use Rattle.activity.specs.declared.Tracker.{Tracker}
use Rattle.activity.specs.Bits.{has_bit, without_bit}
use Rattle.activity.specs.Fixed.{Fixed, stop_of, last_at}

-- the cursor of register r
abbrev pub cursor : Tracker → ℕ → ℕ
cursor t r = get_or t.cursors r 0

abbrev pub with_active : ℕ → Tracker → Tracker
with_active n t = record { active = n; ahead = t.ahead; cursors = t.cursors }

abbrev pub with_cursor : Tracker → ℕ → ℕ → Tracker
with_cursor t r f = record { active = t.active; ahead = t.ahead; cursors = set t.cursors r f }

-- the bits, once the cursor of register r is at f: none is ahead where that is past its fragments
unfoldable pub left_of : ℕ → ℕ → ℕ → ℕ → ℕ
left_of m r f stop = choose (eqb f stop) (without_bit m r) m

abbrev pub with_moved : Tracker → ℕ → ℕ → ℕ → Tracker
with_moved t r f stop = record { active = t.active; ahead = left_of t.ahead r f stop; cursors = set t.cursors r f }

-- the fragment, of n from f on, at which the first does not end before S; past them where all do
unfoldable pub moved : List ℕ → ℕ → ℕ → ℕ → ℕ
moved fs S f zero = f
moved fs S f (suc n) = let rest : ℕ = moved fs S (suc f) n in choose (ltb (last_at fs f) S) rest f

module _ (rs fs : List ℕ) where
  -- the cursors of n registers from r on move to start S
  unfoldable pub advanced_from : ℕ → ℕ → ℕ → Tracker → Tracker
  advanced_from S r zero t = t
  advanced_from S r (suc n) t = advanced_from S (suc r) n (with_moved t r (moved fs S (cursor t r) (stop_of rs r - cursor t r)) (stop_of rs r))

  -- at start S, for the class with these registers: so many records are active, and its cursors move
  abbrev pub advanced : Tracker → ℕ → ℕ → ℕ → ℕ → Tracker
  advanced t first count S active = advanced_from S first count (with_active active t)

  -- all fragments of a register before its cursor end before S
  pub record Cursors (S : ℕ) (t : Tracker) : Type 0 where
    pub long : length t.cursors ≡ 64
    pub low : (r : ℕ) → r < length rs → (register_at rs r).index ≤ cursor t r
    pub high : (r : ℕ) → r < length rs → cursor t r ≤ stop_of rs r
    pub past : (r f : ℕ) → r < length rs → InRange (register_at rs r) f → f < cursor t r → last_at fs f < S
    pub spent : (r : ℕ) → r < length rs → has_bit t.ahead r ≡ false → cursor t r ≡ stop_of rs r

  -- the cursors of a class stand at the first fragment that does not end before S
  pub record Here (S first count : ℕ) (t : Tracker) : Type 0 where
    pub here : (r : ℕ) → first ≤ r → r < first + count → cursor t r < stop_of rs r → S ≤ last_at fs (cursor t r)

  -- what an update of a class's cursors reads lies in the tables
  pub record Ready (t : Tracker) (first count : ℕ) : Type 0 where
    pub fixed : Fixed rs fs
    pub inside : first + count ≤ length rs
    pub high : (r : ℕ) → r < length rs → cursor t r ≤ stop_of rs r
    pub spent : (r : ℕ) → r < length rs → has_bit t.ahead r ≡ false → cursor t r ≡ stop_of rs r

  -- all that is known of a class's cursors after its update
  pub record Facing (S first count : ℕ) (t : Tracker) : Type 0 where
    pub fixed : Fixed rs fs
    pub inside : first + count ≤ length rs
    pub cursors : Cursors S t
    pub here : Here S first count t

-- nothing is active, no cursor is set, and any register may have a fragment ahead
abbrev pub none_active : Tracker
none_active = record { active = 0; ahead = 18446744073709551615; cursors = replicate 64 0 }

-- the cursors of n registers from r on stand at the beginnings of their ranges
unfoldable pub fresh_from : List ℕ → ℕ → ℕ → Tracker → Tracker
fresh_from rs r zero t = t
fresh_from rs r (suc n) t = fresh_from rs (suc r) n (with_cursor t r (register_at rs r).index)

abbrev pub fresh_of : List ℕ → Tracker
fresh_of rs = fresh_from rs 0 (length rs) none_active

-- what moving one cursor gives
pub record Moved (fs : List ℕ) (from stop S r : ℕ) : Type 0 where
  pub is : r ≡ moved fs S from (stop - from)
  pub high : r ≤ stop
