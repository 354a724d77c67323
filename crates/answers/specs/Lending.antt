-- Facts for contracts: what a case asks for is there.
use Rattle.std.specs.Prelude.{ℕ, ◌≤◌}
use Rattle.cases.specs.declared.Case.{Case}
use Rattle.cases.specs.Bounds.{ClaimFits}
use Rattle.answers.specs.declared.lent.Space.{Space}

-- no more words than there are
pub record Lends (r w : ℕ) (s : Space) : Type 0 where
  pub result : s.result ≤ r
  pub work : s.work ≤ w

-- a case whose name is a part of a text of n bytes, and whose claim lies in m words
pub record Named (n m : ℕ) (k : Case) : Type 0 where
  pub ordered : k.name.from ≤ k.name.to
  pub high : k.name.to ≤ n
  pub claim : ClaimFits m k.claim
