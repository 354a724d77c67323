-- Facts for contracts: what the parts of a case hold lies inside the lent tables.
use Rattle.std.specs.Prelude.{◌≡◌, ◌≤◌, length}
use Rattle.cases.specs.Bounds.{ClaimFits}
use Rattle.cases.specs.declared.Counts.{Counts}
use Rattle.cases.specs.declared.Tables.{Tables}
use Rattle.cases.specs.declared.body.Body.{Body}

-- each of the lent tables has as many words as before
pub record SameRoom (t u : Tables) : Type 0 where
  pub classes : length u.classes.now ≡ length t.classes.now
  pub registers : length u.registers.now ≡ length t.registers.now
  pub fragments : length u.fragments.now ≡ length t.fragments.now
  pub intervals : length u.intervals.now ≡ length t.intervals.now
  pub mentions : length u.mentions.now ≡ length t.mentions.now
  pub safepoints : length u.safepoints.now ≡ length t.safepoints.now
  pub claim : length u.claim.now ≡ length t.claim.now

-- the counts of the six tables, each of at most as many words as were lent
pub record Fitting (t : Tables) (k : Counts) : Type 0 where
  pub classes : k.classes ≤ length t.classes.now
  pub registers : k.registers ≤ length t.registers.now
  pub fragments : k.fragments ≤ length t.fragments.now
  pub intervals : k.intervals ≤ length t.intervals.now
  pub mentions : k.mentions ≤ length t.mentions.now
  pub safepoints : k.safepoints ≤ length t.safepoints.now

pub record Whole (t : Tables) (k : Body) : Type 0 where
  pub counts : Fitting t k.counts
  pub claim : ClaimFits (length t.claim.now) k.claim
