-- Rule 2 by records: what its test goes by.
use Rattle.std.specs.Prelude.{ℕ, ◌+◌, ◌*◌, ◌^◌, ◌<◌, ◌≤◌, List, ◌≡◌, true, ◌⊎◌, get_or}
use Rattle.words.specs.Packed.{interval_count, mention_in}
use Rattle.rules.specs.Uses.{at_use, at_def}
use Rattle.seek.specs.Seek.{Rising}
use Rattle.checker_rules.specs.Entries.{kind_of, interval_of, first_of, last_of, start_of, end_of, mentions_from, mentions_to}

-- the instruction of a mention's word
abbrev pub instruction_in : ℕ → ℕ
instruction_in w = (mention_in w).instruction

-- p is a point of the mention: "a use or mod has the Use point, a mod or def the Def point"
abbrev pub Point : ℕ → ℕ → Type 0
Point w p = ((p ≡ 2 * instruction_in w) × (at_use (mention_in w) ≡ true)) ⊎ ((p ≡ 2 * instruction_in w + 1) × (at_def (mention_in w) ≡ true))

-- the mention has a point
pub record Pointed (w : ℕ) : Type 0 where
  pub at : ℕ
  pub is : Point w at

pub record Lowest (w r : ℕ) : Type 0 where
  pub is : Point w r
  pub least : (p : ℕ) → Point w p → r ≤ p

pub record Highest (w r : ℕ) : Type 0 where
  pub is : Point w r
  pub most : (p : ℕ) → Point w p → p ≤ r

-- a register record of these points holds the whole mention
pub record Held (k first last w : ℕ) : Type 0 where
  pub kind : k ≡ 1
  pub from : (p : ℕ) → Point w p → first ≤ p
  pub to : (p : ℕ) → Point w p → p ≤ last

-- a record that holds a point of the mention is a register record that holds it whole
pub record Whole (kind first last w : ℕ) : Type 0 where
  pub held : (p : ℕ) → Point w p → first ≤ p → p ≤ last → Held kind first last w

-- so it is with each mention of lo..hi
pub record FitsIn (ms : List ℕ) (lo hi kind first last : ℕ) : Type 0 where
  pub each : (m : ℕ) → lo ≤ m → m < hi → Whole kind first last (get_or ms m 0)

-- of sound tables: one interval's mentions
pub record Row (ms : List ℕ) (lo hi : ℕ) : Type 0 where
  pub rising : Rising ms lo hi
  pub insts : (i j : ℕ) → lo ≤ i → i < j → j < hi → instruction_in (get_or ms i 0) < instruction_in (get_or ms j 0)
  pub pointed : (i : ℕ) → lo ≤ i → i < hi → Pointed (get_or ms i 0)
  pub small : (i : ℕ) → get_or ms i 0 < 2 ^ 32

-- each interval's, and their points lie in it
pub record Rows (is ms : List ℕ) : Type 0 where
  pub row : (v : ℕ) → v < interval_count is → Row ms (mentions_from is v) (mentions_to is v)
  pub inside : (v m p : ℕ) → v < interval_count is → mentions_from is v ≤ m → m < mentions_to is v → Point (get_or ms m 0) p → (start_of is v ≤ p) × (p ≤ end_of is v)

-- record k, of all mentions of its interval
pub record Fits (ws is ms : List ℕ) (k : ℕ) : Type 0 where
  pub fits : FitsIn ms (mentions_from is (interval_of ws k)) (mentions_to is (interval_of ws k)) (kind_of ws k) (first_of ws k) (last_of ws k)

-- one register record of v holds all points of mention w
pub record Housed (ws : List ℕ) (n v w : ℕ) : Type 0 where
  pub by : ℕ
  pub real : by < n
  pub names : interval_of ws by ≡ v
  pub held : Held (kind_of ws by) (first_of ws by) (last_of ws by) w

-- rule 2: so it is with each mention
pub record Housing (ws : List ℕ) (n : ℕ) (is ms : List ℕ) : Type 0 where
  pub each : (v m : ℕ) → v < interval_count is → mentions_from is v ≤ m → m < mentions_to is v → Housed ws n v (get_or ms m 0)
