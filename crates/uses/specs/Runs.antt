-- Facts for contracts: what a piece's run of mentions, and of safepoints, is on accepted tables (proofs/RunLaws derives them).
use Rattle.std.specs.Prelude.{ℕ, ◌+◌, ◌≤◌, ◌<◌, ◌≡◌, Bool, length, get_or}
use mathlib.Core.List.{List, Memᴰ}
use Rattle.words.specs.declared.Range.{Range}
use Rattle.words.specs.declared.Mention.{Mention}
use Rattle.words.specs.Packed.{mention_in, part, interval_count}
use Rattle.rules.specs.Uses.{points_in}
use Rattle.rules.specs.declared.Piece.{Piece}
use Rattle.rules.specs.Tables.{Tables}
use Rattle.rules.specs.Accepted.{InRange, interval}
use Rattle.rules.specs.Split.{count_of}

-- mention j of a table of words
abbrev pub mention_at : List ℕ → ℕ → Mention
mention_at ms j = mention_in (get_or ms j 0)

-- a run of mentions: inside its table, each with a point, by rising instructions
pub record Rising (range : Range) (ms : List ℕ) : Type 0 where
  pub inside : range.index + range.count ≤ length ms
  pub short : length ms ≤ 16384
  pub pointed : (j : ℕ) → InRange range j → (p : ℕ) × Memᴰ p (points_in (mention_at ms j))
  pub ascending : (j k : ℕ) → InRange range j → InRange range k → j < k → (mention_at ms j).instruction < (mention_at ms k).instruction

-- a run of safepoints: inside its table, each an instruction, rising
pub record Ascending (range : Range) (ss : List ℕ) : Type 0 where
  pub inside : range.index + range.count ≤ length ss
  pub short : length ss ≤ 16384
  pub below : (j : ℕ) → InRange range j → get_or ss j 0 < 32768
  pub ascending : (j k : ℕ) → InRange range j → InRange range k → j < k → get_or ss j 0 < get_or ss k 0

-- one run lies in another
pub record SubRange (small big : Range) : Type 0 where
  pub low : big.index ≤ small.index
  pub high : small.index + small.count ≤ big.index + big.count

-- n entries of a run stay: those that pass the test, which are no more than the run has
pub record Kept (f : ℕ → Bool) (range : Range) (table : List ℕ) (n : ℕ) : Type 0 where
  pub is : n ≡ count_of f (part range table)
  pub most : n ≤ range.count

-- n entries can be taken from the front of a run
pub record Room (n : ℕ) (range : Range) : Type 0 where
  pub most : n ≤ range.count
  pub fits : range.index + range.count < 65536

-- a piece's runs are in order
pub record Orderly (q : Piece) (ms ss : List ℕ) : Type 0 where
  pub mentions : Rising q.mentions ms
  pub safepoints : Ascending q.safepoints ss

-- a piece is of an interval of the tables, and its runs lie in the interval's
pub record Owned (T : Tables) (q : Piece) : Type 0 where
  pub known : q.interval < interval_count T.intervals
  pub mentions : SubRange q.mentions (interval T q.interval).mentions
  pub safepoints : SubRange q.safepoints (interval T q.interval).safepoints
