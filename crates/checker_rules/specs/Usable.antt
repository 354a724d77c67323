-- Rule 3 by records: what its test goes by.
use Rattle.std.specs.Prelude.{ℕ, ◌+◌, ◌<◌, ◌≤◌, List, ◌≡◌, get_or, length}
use Rattle.words.specs.Packed.{class_in, interval_count}
use Rattle.checker_rules.specs.Entries.{kind_of, interval_of, number_of, class_of}

-- register q is of the class of word w, and not its scratch
pub record Usable (w q : ℕ) : Type 0 where
  pub from : (class_in w).first ≤ q
  pub to : q < (class_in w).first + (class_in w).count
  pub scratch : q ≡ (class_in w).scratch → ⊥

-- record k, if it is in a register, is in one that it may use
pub record Suits (ws is cs : List ℕ) (k : ℕ) : Type 0 where
  pub suits : kind_of ws k ≡ 1 → Usable (get_or cs (class_of is (interval_of ws k)) 0) (number_of ws k)

-- of sound tables: an interval's class exists
pub record Classes (is cs : List ℕ) : Type 0 where
  pub there : (v : ℕ) → v < interval_count is → class_of is v < length cs
