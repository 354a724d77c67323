-- Facts for contracts: document 01's tests of one entry, said of the entry and of what the walk of its table carries.
use Rattle.std.specs.Prelude.{ℕ, ◌-◌, ◌*◌, ◌≤◌, ◌<◌, ◌≡◌, List, length, get_or, take, drop, Bool, ◌&&◌, ltb, leb, eqb, Option}
use Rattle.words.specs.declared.Range.{Range}
use Rattle.words.specs.declared.Interval.{Interval}
use Rattle.rules.specs.Sound.{first, count_sum, range_end, ends_before, bad_unless, mention_good, safepoint_good}
use Rattle.words.specs.Packed.{interval_at, interval_count, fragment_in, mention_in}
use Rattle.rules.specs.Tables.{Tables}
use Rattle.rules.specs.Accepted.{InRange}

-- interval i but for its ranges: "class exists, start ≤ end < 2 × instructions"
abbrev pub extent_good : ℕ → ℕ → Interval → Bool
extent_good limit classes i = eqb i.spare 0 && ltb i.class classes && leb i.start i.end && ltb i.end limit

-- the sum of the counts of the classes before class k. A count has eight bits, so the sum is small
pub record Summed (classes : List ℕ) (k sum : ℕ) : Type 0 where
  pub is : sum ≡ count_sum (take k classes)
  pub small : sum ≤ 255 * k

-- the mentions of every interval lie in the table
pub record Ranged (T : Tables) : Type 0 where
  pub inside : (v : ℕ) → v < interval_count T.intervals → range_end (interval_at T.intervals v).mentions ≤ length T.mentions

-- the words from a on, up to e
abbrev pub between : ℕ → ℕ → List ℕ → List ℕ
between a e ws = take (e - a) (drop a ws)

-- fragment w, before those of ws, is ordered, below the limit and ends before the next begins
abbrev pub fragment_good : ℕ → ℕ → List ℕ → Bool
fragment_good limit w ws = leb (fragment_in w).first (fragment_in w).last && ltb (fragment_in w).last limit && ends_before w ws

-- what the mentions of interval i are found to be
abbrev pub mention_find : Tables → Interval → Option ℕ
mention_find T i = first (λ j. bad_unless (mention_good T i j) j) i.mentions.index i.mentions.count

-- the mentions of range q lie in the table, their instructions strictly ascending
pub record Ascending (ms : List ℕ) (q : Range) : Type 0 where
  pub inside : range_end q ≤ length ms
  pub up : (j k : ℕ) → InRange q j → InRange q k → j < k → (mention_in (get_or ms j 0)).instruction < (mention_in (get_or ms k 0)).instruction

-- every interval has such mentions, and its safepoints in the table
pub record Placed (T : Tables) : Type 0 where
  pub mentions : (v : ℕ) → v < interval_count T.intervals → Ascending T.mentions (interval_at T.intervals v).mentions
  pub safepoints : (v : ℕ) → v < interval_count T.intervals → range_end (interval_at T.intervals v).safepoints ≤ length T.safepoints

-- what the safepoints of interval i are found to be
abbrev pub safepoint_find : Tables → Interval → Option ℕ
safepoint_find T i = first (λ j. bad_unless (safepoint_good T i j) j) i.safepoints.index i.safepoints.count
