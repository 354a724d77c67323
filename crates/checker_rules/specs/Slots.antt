-- Rule 6 by records, and what the tables that test it hold.
use Rattle.std.specs.Prelude.{ℕ, ◌+◌, ◌%◌, ◌^◌, ◌<◌, ◌≤◌, List, ◌≡◌, ◌⊎◌, get_or, length, Option, Some, None}
use Rattle.checker_rules.specs.Entries.{kind_of, interval_of, number_of, size_at}

-- the size of a logarithm
pub record Sized (log r : ℕ) : Type 0 where
  pub is : r ≡ 2 ^ log
  pub pos : 0 < r
  pub most : r ≤ 8

-- record k is a slot record
pub record Slot (ws : List ℕ) (n k : ℕ) : Type 0 where
  pub real : k < n
  pub kind : kind_of ws k ≡ 2

-- u is a unit of record k's slot
pub record Extends (ws is : List ℕ) (k u : ℕ) : Type 0 where
  pub from : number_of ws k ≤ u
  pub to : u < number_of ws k + size_at is (interval_of ws k)

-- a slot record ends at the total
pub record Tops (ws : List ℕ) (n : ℕ) (is : List ℕ) (total : ℕ) : Type 0 where
  pub by : ℕ
  pub slot : Slot ws n by
  pub ends : number_of ws by + size_at is (interval_of ws by) ≡ total

-- rule 6
pub record Slots (ws : List ℕ) (n : ℕ) (is : List ℕ) (total : ℕ) : Type 0 where
  pub one : (j k : ℕ) → Slot ws n j → Slot ws n k → interval_of ws j ≡ interval_of ws k → number_of ws j ≡ number_of ws k
  pub fits : (k : ℕ) → Slot ws n k → number_of ws k % size_at is (interval_of ws k) ≡ 0
  pub apart : (j k u : ℕ) → Slot ws n j → Slot ws n k → Extends ws is j u → Extends ws is k u → interval_of ws j ≡ interval_of ws k
  pub most : (k : ℕ) → Slot ws n k → number_of ws k + size_at is (interval_of ws k) ≤ total
  pub reached : (total ≡ 0) ⊎ Tops ws n is total

-- u is a unit of the slot that the table gives v: the table has slots plus one
pub record Takes (sl is : List ℕ) (v u : ℕ) : Type 0 where
  pub pos : 0 < get_or sl v 0
  pub from : get_or sl v 0 ≤ u + 1
  pub to : u + 1 < get_or sl v 0 + size_at is v

-- a slot record below k names v
pub record Back (ws : List ℕ) (k v : ℕ) : Type 0 where
  pub by : ℕ
  pub slot : Slot ws k by
  pub names : interval_of ws by ≡ v

-- what the two tables hold after the records below k
pub record Placed (ws : List ℕ) (k : ℕ) (is sl ow : List ℕ) (top : ℕ) : Type 0 where
  pub given : (j : ℕ) → Slot ws k j → get_or sl (interval_of ws j) 0 ≡ number_of ws j + 1
  pub fits : (j : ℕ) → Slot ws k j → number_of ws j % size_at is (interval_of ws j) ≡ 0
  pub back : (v : ℕ) → 0 < get_or sl v 0 → Back ws k v
  pub owns : (v u : ℕ) → Takes sl is v u → get_or ow u 0 ≡ v + 1
  pub owned : (v u : ℕ) → get_or ow u 0 ≡ v + 1 → Takes sl is v u
  pub most : (j : ℕ) → Slot ws k j → number_of ws j + size_at is (interval_of ws j) ≤ top
  pub reached : (top ≡ 0) ⊎ Tops ws k is top

-- nobody has a unit of a..b
pub record Unowned (ow : List ℕ) (a b : ℕ) : Type 0 where
  pub bare : (u : ℕ) → a ≤ u → u < b → get_or ow u 0 ≡ 0

-- the units of a..b get an entry, and no other
pub record Owned (ow ow' : List ℕ) (a b entry : ℕ) : Type 0 where
  pub inner : (u : ℕ) → a ≤ u → u < b → get_or ow' u 0 ≡ entry
  pub low : (u : ℕ) → u < a → get_or ow' u 0 ≡ get_or ow u 0
  pub high : (u : ℕ) → b ≤ u → get_or ow' u 0 ≡ get_or ow u 0
  pub long : length ow' ≡ length ow

-- the records below k come to r, of n that the rule speaks of
abbrev pub PutBy : List ℕ → ℕ → ℕ → List ℕ → List ℕ → List ℕ → Option ℕ → Type 0
PutBy ws n k is sl ow None = (total : ℕ) → Slots ws n is total → ⊥
PutBy ws n k is sl ow (Some t) = Placed ws k is sl ow t
