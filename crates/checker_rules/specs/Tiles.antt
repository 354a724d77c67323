-- Rule 1 by records and intervals, and what the walk that tests it knows. `Tiling` and Placement's Rule1 say the same (proofs/BridgeLaws).
use Rattle.std.specs.Prelude.{ℕ, ◌+◌, ◌<◌, ◌≤◌, List, ◌≡◌, Bool, true, false, get_or, length}
use Rattle.words.specs.declared.Record.{Record}
use Rattle.words.specs.Packed.{interval_count}
use Rattle.checker_rules.specs.Entries.{kind_of, spare_of, interval_of, first_of, last_of, start_of, end_of, Shown}
use Rattle.checker_rules.specs.Order.{rank, Linked}
use Rattle.checker_rules.specs.Kinds.{Known}
use Rattle.checker_rules.specs.Decides.{Decides1}

-- record k is well packed, names an interval and stays inside it
pub record Sits (ws is : List ℕ) (k : ℕ) : Type 0 where
  pub known : Known (kind_of ws k)
  pub spare : spare_of ws k ≡ 0
  pub ordered : first_of ws k ≤ last_of ws k
  pub names : interval_of ws k < interval_count is
  pub from : start_of is (interval_of ws k) ≤ first_of ws k
  pub to : last_of ws k ≤ end_of is (interval_of ws k)

-- each record does
pub record Loose (ws : List ℕ) (n : ℕ) (is : List ℕ) : Type 0 where
  pub each : (k : ℕ) → k < n → Sits ws is k

-- record k names v and holds p
pub record Covers (ws : List ℕ) (n v p k : ℕ) : Type 0 where
  pub real : k < n
  pub names : interval_of ws k ≡ v
  pub from : first_of ws k ≤ p
  pub to : p ≤ last_of ws k

-- record k as read, with what its reader may index by
pub record Seated (ws is : List ℕ) (k : ℕ) (r : Record) : Type 0 where
  pub shown : Shown ws k r
  pub names : r.interval < interval_count is

-- exactly one record names v and holds p
pub record Once (ws : List ℕ) (n v p : ℕ) : Type 0 where
  pub one : ℕ
  pub covers : Covers ws n v p one
  pub only : (j : ℕ) → Covers ws n v p j → j ≡ one

-- so it is for each point of each interval
pub record Tiled (ws : List ℕ) (n : ℕ) (is : List ℕ) : Type 0 where
  pub once : (v p : ℕ) → v < interval_count is → start_of is v ≤ p → p ≤ end_of is v → Once ws n v p

-- rule 1
pub record Tiling (ws : List ℕ) (n : ℕ) (is : List ℕ) : Type 0 where
  pub loose : Loose ws n is
  pub tiled : Tiled ws n is

-- of sound tables: starts at or below ends, ends below the points
pub record Within (is : List ℕ) (points : ℕ) : Type 0 where
  pub ordered : (v : ℕ) → v < interval_count is → start_of is v ≤ end_of is v
  pub under : (v : ℕ) → v < interval_count is → end_of is v < points
  pub most : points ≤ 65536

-- the point that each interval's next record has to start at, once all records of rank below t were seen
pub record Fronts (ws : List ℕ) (n : ℕ) (is e : List ℕ) (t : ℕ) : Type 0 where
  pub low : (v : ℕ) → v < interval_count is → start_of is v ≤ get_or e v 0
  pub high : (v : ℕ) → v < interval_count is → get_or e v 0 ≤ end_of is v + 1
  pub past : (k : ℕ) → k < n → rank ws k < t → last_of ws k < get_or e (interval_of ws k) 0
  pub covered : (v p : ℕ) → v < interval_count is → start_of is v ≤ p → p < get_or e v 0 → (k : ℕ) × Covers ws n v p k × (rank ws k < t)
  pub alone : (v p j k : ℕ) → Covers ws n v p j → rank ws j < t → Covers ws n v p k → rank ws k < t → j ≡ k
  pub room : interval_count is ≤ length e

-- the same once all were seen
pub record Fronted (ws : List ℕ) (n : ℕ) (is e : List ℕ) : Type 0 where
  pub t : ℕ
  pub fronts : Fronts ws n is e t
  pub all : (k : ℕ) → k < n → rank ws k < t

-- the same before any was seen
pub record Started (is e : List ℕ) : Type 0 where
  pub at : (v : ℕ) → v < interval_count is → get_or e v 0 ≡ start_of is v
  pub room : interval_count is ≤ length e

-- the walk came to the end, or a point is held twice or not at all
pub record Joined (ws : List ℕ) (n : ℕ) (is e : List ℕ) (r : Bool) : Type 0 where
  pub holds : r ≡ true → Fronted ws n is e
  pub fails : r ≡ false → Tiled ws n is → ⊥
  pub room : interval_count is ≤ length e

-- rule 1 is decided, and where it holds the chains are there for rule 4
pub record Judged (ws : List ℕ) (n : ℕ) (is head next : List ℕ) (r : Bool) : Type 0 where
  pub decides : Decides1 ws n is r
  pub tiling : r ≡ true → Tiling ws n is
  pub chains : r ≡ true → Linked ws n head next
