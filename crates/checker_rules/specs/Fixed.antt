-- Rule 5 by records: what its test goes by.
use Rattle.std.specs.Prelude.{ℕ, ◌+◌, ◌^◌, ◌<◌, ◌≤◌, List, ◌≡◌, get_or, length}
use Rattle.words.specs.Packed.{register_at, fragment_in}
use Rattle.checker_rules.specs.Entries.{kind_of, number_of, first_of, last_of}

-- the points of fragment j
abbrev pub first_point : List ℕ → ℕ → ℕ
first_point fs j = (fragment_in (get_or fs j 0)).first

abbrev pub last_point : List ℕ → ℕ → ℕ
last_point fs j = (fragment_in (get_or fs j 0)).last

-- where the fragments of register q begin and end
abbrev pub fixed_from : List ℕ → ℕ → ℕ
fixed_from rs q = (register_at rs q).index

abbrev pub fixed_to : List ℕ → ℕ → ℕ
fixed_to rs q = (register_at rs q).index + (register_at rs q).count

-- of sound tables: one register's fragments
pub record Run (fs : List ℕ) (lo hi : ℕ) : Type 0 where
  pub order : lo ≤ hi
  pub within : hi ≤ length fs
  pub whole : (j : ℕ) → lo ≤ j → j < hi → first_point fs j ≤ last_point fs j
  pub apart : (i j : ℕ) → lo ≤ i → i < j → j < hi → last_point fs i < first_point fs j
  pub small : (j : ℕ) → get_or fs j 0 < 2 ^ 32

pub record Runs (rs fs : List ℕ) : Type 0 where
  pub run : (q : ℕ) → q < length rs → Run fs (fixed_from rs q) (fixed_to rs q)

-- a fragment of lo..hi and the points first..last have a point in common
pub record Meets (fs : List ℕ) (lo hi first last : ℕ) : Type 0 where
  pub by : ℕ
  pub from : lo ≤ by
  pub to : by < hi
  pub point : ℕ
  pub after : first ≤ point
  pub before : point ≤ last
  pub starts : first_point fs by ≤ point
  pub ends : point ≤ last_point fs by

-- record k, if it is in a register, meets no fragment of it
pub record Clear (ws : List ℕ) (rs fs : List ℕ) (k : ℕ) : Type 0 where
  pub clear : kind_of ws k ≡ 1 → Meets fs (fixed_from rs (number_of ws k)) (fixed_to rs (number_of ws k)) (first_of ws k) (last_of ws k) → ⊥
