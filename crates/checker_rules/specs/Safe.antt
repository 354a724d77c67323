-- Rule 7 by records: what its test goes by.
use Rattle.std.specs.Prelude.{ℕ, ◌+◌, ◌*◌, ◌<◌, ◌≤◌, List, ◌≡◌, true, get_or}
use Rattle.words.specs.Packed.{interval_count}
use Rattle.seek.specs.Seek.{Rising}
use Rattle.checker_rules.specs.Entries.{kind_of, interval_of, first_of, last_of, reference_of, mentions_from, mentions_to, safepoints_from, safepoints_to}
use Rattle.checker_rules.specs.Housed.{Point}

-- Def s is a point of one of the mentions lo..hi
pub record Defined (ms : List ℕ) (lo hi s : ℕ) : Type 0 where
  pub by : ℕ
  pub from : lo ≤ by
  pub to : by < hi
  pub point : Point (get_or ms by 0) (2 * s + 1)

-- safepoint j of lo..hi is the first whose Use lies in first..last
pub record First (ss : List ℕ) (lo hi first last j : ℕ) : Type 0 where
  pub from : lo ≤ j
  pub to : j < hi
  pub after : first ≤ 2 * get_or ss j 0
  pub before : 2 * get_or ss j 0 ≤ last
  pub none : (i : ℕ) → lo ≤ i → i < j → first ≤ 2 * get_or ss i 0 → 2 * get_or ss i 0 ≤ last → ⊥

-- Def s lies in the record, and is a mention point
pub record Kept (ms : List ℕ) (lo hi last s : ℕ) : Type 0 where
  pub inside : 2 * s + 1 ≤ last
  pub defined : Defined ms lo hi s

-- the first safepoint of first..last, if there is one, is kept
pub record SafeIn (ss : List ℕ) (sl sh : ℕ) (ms : List ℕ) (ml mh first last : ℕ) : Type 0 where
  pub each : (j : ℕ) → First ss sl sh first last j → Kept ms ml mh last (get_or ss j 0)

-- record k, if it is in a register and a reference
pub record Safe (ws is ms ss : List ℕ) (k : ℕ) : Type 0 where
  pub safe : kind_of ws k ≡ 1 → reference_of is (interval_of ws k) ≡ true
      → SafeIn ss (safepoints_from is (interval_of ws k)) (safepoints_to is (interval_of ws k)) ms (mentions_from is (interval_of ws k)) (mentions_to is (interval_of ws k)) (first_of ws k) (last_of ws k)

-- of sound tables: each interval's safepoints ascend
pub record Points (is ss : List ℕ) : Type 0 where
  pub row : (v : ℕ) → v < interval_count is → Rising ss (safepoints_from is v) (safepoints_to is v)
