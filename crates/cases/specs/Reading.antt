-- Facts for contracts: what a reader of cases answers.
use Rattle.std.specs.Prelude.{◌≡◌, ℕ, ◌≤◌, ◌<◌, length, Option, Some, None, Result, Ok, Err}
use Rattle.cases.specs.Bounds.{ClaimFits}
use Rattle.cases.specs.Parts.{Fitting}
use Rattle.cases.specs.declared.Cursor.{Cursor}
use Rattle.cases.specs.declared.Span.{Span}
use Rattle.cases.specs.declared.Tables.{Tables}
use Rattle.cases.specs.declared.Case.{Case}
use Rattle.cases.specs.declared.Trouble.{Trouble}

-- what is said of a case that could not be read: its name, and where the next one may start
pub record Told (name : Span) (after : Cursor) (n : ℕ) (t : Trouble) : Type 0 where
  pub names : t.name ≡ name
  pub later : after.at ≤ t.next.at
  pub within : t.next.at ≤ n

-- the reader has moved on from at, in a text of n bytes, and the name is a part of the text
pub record Onward (at n : ℕ) (name : Span) (next : Cursor) : Type 0 where
  pub ordered : name.from ≤ name.to
  pub high : name.to ≤ n
  pub later : at < next.at
  pub within : next.at ≤ n

-- a case that was read: its tables and its claim lie in the lent ones
pub record Good (at n : ℕ) (t : Tables) (k : Case) : Type 0 where
  pub onward : Onward at n k.name k.next
  pub counts : Fitting t k.counts
  pub claim : ClaimFits (length t.claim.now) k.claim

abbrev pub Reads : ℕ → ℕ → Tables → Option (Result Case Trouble) → Type 0
Reads at n t (Some (Ok k)) = Good at n t k
Reads at n t (Some (Err e)) = Onward at n e.name e.next
Reads at n t None = Unit
