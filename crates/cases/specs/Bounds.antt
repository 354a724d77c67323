-- Facts for contracts: what a reader of cases answers lies inside the text and inside the lent tables.
use Rattle.std.specs.Prelude.{ℕ, ◌≤◌, ◌<◌, Option, Some, None}
use Rattle.cases.specs.declared.Span.{Span}
use Rattle.cases.specs.declared.Cursor.{Cursor}
use Rattle.cases.specs.declared.scan.Line.{Line}
use Rattle.cases.specs.declared.keyed.Due.{Due}

pub record Between (at to i : ℕ) : Type 0 where
  pub low : at ≤ i
  pub high : i ≤ to

-- a part of at..to
pub record Inside (at to : ℕ) (s : Span) : Type 0 where
  pub low : at ≤ s.from
  pub ordered : s.from ≤ s.to
  pub high : s.to ≤ to

-- a line after at, of a text of n bytes: the next one starts later
pub record Ahead (at n : ℕ) (l : Line) : Type 0 where
  pub text : Inside at n l.text
  pub later : at < l.next.at
  pub within : l.next.at ≤ n

-- the line that follows at: empty at the end, else the next one starts after at
pub record Follows (at n : ℕ) (l : Line) : Type 0 where
  pub ordered : l.text.from ≤ l.text.to
  pub high : l.text.to ≤ n
  pub within : l.next.at ≤ n
  pub later : l.text.from < l.text.to → at < l.next.at

-- what stands after a line's first word, in a text of n bytes, and where the next line starts: after at
pub record Rest (at n : ℕ) (d : Due) : Type 0 where
  pub ordered : d.rest.from ≤ d.rest.to
  pub high : d.rest.to ≤ n
  pub later : at < d.next.at
  pub within : d.next.at ≤ n

-- a name that is no empty part of the text
pub record Named (at n : ℕ) (s : Span) (c : Cursor) : Type 0 where
  pub ordered : s.from < s.to
  pub high : s.to ≤ n
  pub later : at < c.at
  pub within : c.at ≤ n

-- a claim has at least its count and its total, and at most the m words of the lent table
abbrev pub ClaimFits : ℕ → Option ℕ → Type 0
ClaimFits m None = Unit
ClaimFits m (Some k) = (2 ≤ k) × (k ≤ m)
