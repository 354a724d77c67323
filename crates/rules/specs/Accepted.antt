-- A fact for proofs: what they want of tables that pass the checks 3 to 8 (document 01, "Sound"), as propositions. The checks are in Sound, and proofs/Accepted shows that they give this; it is less than they say.
use Rattle.std.specs.Prelude.{ℕ, ◌+◌, ◌*◌, ◌≤◌, ◌<◌, ◌≡◌, true, length, get_or}
use mathlib.Core.List.{Memᴰ}
use Rattle.words.specs.Points.{use_point}
use Rattle.words.specs.Packed.{class_at, register_at, fragment_in, interval_at, interval_count, mention_in}
use Rattle.words.specs.declared.Class.{Class}
use Rattle.words.specs.declared.Range.{Range}
use Rattle.words.specs.declared.Fragment.{Fragment}
use Rattle.words.specs.declared.Interval.{Interval}
use Rattle.words.specs.declared.Mention.{Mention}
use Rattle.rules.specs.Tables.{Tables}
use Rattle.rules.specs.Uses.{points_in, at_def}

-- index j lies in a range
abbrev pub InRange : Range → ℕ → Type 0
InRange r j = (r.index ≤ j) × (j < r.index + r.count)

module _ (T : Tables) where
  abbrev pub mention : ℕ → Mention
  mention j = mention_in (get_or T.mentions j 0)

  abbrev pub fragment : ℕ → Fragment
  fragment f = fragment_in (get_or T.fragments f 0)

  abbrev pub safepoint : ℕ → ℕ
  safepoint j = get_or T.safepoints j 0

  abbrev pub interval : ℕ → Interval
  interval v = interval_at T.intervals v

  -- no ground for 3
  pub record Limits : Type 0 where
    pub instructions : T.instructions ≤ 32768
    pub some_class : 1 ≤ length T.classes
    pub classes : length T.classes ≤ 8
    pub registers : length T.registers ≤ 64
    pub fragments : length T.fragments ≤ 8192
    pub intervals : interval_count T.intervals ≤ 4096
    pub rows : length T.intervals ≡ interval_count T.intervals * 4
    pub mentions : length T.mentions ≤ 16384
    pub safepoints : length T.safepoints ≤ 16384

  -- no ground for 4: class c's registers are in the table, and its scratch is one of them
  pub record ClassSound (c : Class) : Type 0 where
    pub inside : c.first + c.count ≤ length T.registers
    pub scratch : 0 < c.count → (c.first ≤ c.scratch) × (c.scratch < c.first + c.count)

  -- no ground for 5
  pub record IntervalSound (i : Interval) : Type 0 where
    pub class : i.class < length T.classes
    pub ordered : i.start ≤ i.end
    pub inside : i.end < 2 * T.instructions
    pub mentions : i.mentions.index + i.mentions.count ≤ length T.mentions
    pub safepoints : i.safepoints.index + i.safepoints.count ≤ length T.safepoints

  -- no ground for 6: the mentions of an interval
  pub record MentionsSound (i : Interval) : Type 0 where
    pub pointed : (j : ℕ) → InRange i.mentions j → (p : ℕ) × Memᴰ p (points_in (mention j))
    pub inside : (j : ℕ) → InRange i.mentions j → (p : ℕ) → Memᴰ p (points_in (mention j)) → (i.start ≤ p) × (p ≤ i.end)
    pub ascending : (j k : ℕ) → InRange i.mentions j → InRange i.mentions k → j < k → (mention j).instruction < (mention k).instruction

  -- no ground for 7: the safepoints of an interval
  pub record SafepointsSound (i : Interval) : Type 0 where
    pub reference : (j : ℕ) → InRange i.safepoints j → i.reference ≡ true
    pub inside : (j : ℕ) → InRange i.safepoints j → (i.start ≤ use_point (safepoint j)) × (use_point (safepoint j) ≤ i.end)
    pub ascending : (j k : ℕ) → InRange i.safepoints j → InRange i.safepoints k → j < k → safepoint j < safepoint k
    pub redefined : (j k : ℕ) → InRange i.safepoints j → InRange i.mentions k → (mention k).instruction ≡ safepoint j → (mention k).uses ≡ true → at_def (mention k) ≡ true

  -- no ground for 8: the fragments of a register
  pub record FixedSound (r : Range) : Type 0 where
    pub inside : r.index + r.count ≤ length T.fragments
    pub ordered : (f : ℕ) → InRange r f → (fragment f).first ≤ (fragment f).last
    pub below : (f : ℕ) → InRange r f → (fragment f).last < 2 * T.instructions
    pub ascending : (f k : ℕ) → InRange r f → InRange r k → f < k → (fragment f).last < (fragment k).first

  -- sound tables
  pub record Accepted : Type 0 where
    pub limits : Limits
    pub classes : (c : ℕ) → c < length T.classes → ClassSound (class_at T.classes c)
    pub intervals : (v : ℕ) → v < interval_count T.intervals → IntervalSound (interval v)
    pub mentions : (v : ℕ) → v < interval_count T.intervals → MentionsSound (interval v)
    pub safepoints : (v : ℕ) → v < interval_count T.intervals → SafepointsSound (interval v)
    pub fixed : (r : ℕ) → r < length T.registers → FixedSound (register_at T.registers r)
