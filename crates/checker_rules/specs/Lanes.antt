-- Rule 4 by records, and what the walk that tests it knows.
use Rattle.std.specs.Prelude.{ℕ, ◌+◌, ◌<◌, ◌≤◌, List, ◌≡◌, Bool, true, false, get_or, length, set}
use Rattle.words.specs.declared.Record.{Record}
use Rattle.checker_rules.specs.Entries.{kind_of, number_of, first_of, last_of}
use Rattle.checker_rules.specs.Order.{rank}

-- record k puts point p into register q
pub record On (ws : List ℕ) (n q p k : ℕ) : Type 0 where
  pub real : k < n
  pub kind : kind_of ws k ≡ 1
  pub place : number_of ws k ≡ q
  pub from : first_of ws k ≤ p
  pub to : p ≤ last_of ws k

-- rule 4: no two records put a point into one register
pub record Lanes (ws : List ℕ) (n : ℕ) : Type 0 where
  pub apart : (q p j k : ℕ) → On ws n q p j → On ws n q p k → j ≡ k

-- what rules 1 and 3 say of a register record: ordered, its register one of so many
pub record Registers (ws : List ℕ) (n most : ℕ) : Type 0 where
  pub below : (k : ℕ) → k < n → kind_of ws k ≡ 1 → number_of ws k < most
  pub ordered : (k : ℕ) → k < n → first_of ws k ≤ last_of ws k

-- one record enters its register: b is false where the register is not free at its first point
pub record Entered (e e' : List ℕ) (r : Record) (b : Bool) : Type 0 where
  pub stays : (r.kind ≡ 1 → ⊥) → e' ≡ e
  pub moves : b ≡ true → r.kind ≡ 1 → e' ≡ set e r.number (r.last + 1)
  pub free : b ≡ true → r.kind ≡ 1 → get_or e r.number 0 ≤ r.first
  pub clash : b ≡ false → r.first < get_or e r.number 0
  pub holds : b ≡ false → r.kind ≡ 1
  pub room : length e' ≡ length e

-- the record that register q is free after
pub record Met (ws : List ℕ) (n : ℕ) (e : List ℕ) (t q : ℕ) : Type 0 where
  pub by : ℕ
  pub real : by < n
  pub kind : kind_of ws by ≡ 1
  pub place : number_of ws by ≡ q
  pub ends : last_of ws by + 1 ≡ get_or e q 0
  pub seen : rank ws by < t

-- from which point on each register is free, once all records of rank below t were seen
pub record Frees (ws : List ℕ) (n : ℕ) (e : List ℕ) (t : ℕ) : Type 0 where
  pub past : (k : ℕ) → k < n → rank ws k < t → kind_of ws k ≡ 1 → last_of ws k < get_or e (number_of ws k) 0
  pub met : (q : ℕ) → 0 < get_or e q 0 → Met ws n e t q
  pub alone : (q p j k : ℕ) → On ws n q p j → rank ws j < t → On ws n q p k → rank ws k < t → j ≡ k
