-- `tables::intervals::bad_interval` meets its contract: the first bad interval, else what is left over where there is none.
-- Assumes nothing.
use Rattle.std.proofs.Common.{rules}
use Rattle.rules.specs.Lent.{tables_of}
use Rattle.rules.specs.Sound.{interval_good}
use Rattle.tables.proofs.WalkLaws.{intervals_found}
use Rattle.tables.proofs.intervals.bad_interval.Goals as goal

pub returns : goal.returns
returns c = let found = c.first_bad.ensures (interval_good (tables_of c.args.tables.now)) (λ k b l h p. search rules) in search intervals_found
