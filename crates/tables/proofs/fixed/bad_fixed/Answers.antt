-- `tables::fixed::bad_fixed` meets its contract: the first bad register, else what is left over where there is none.
-- Assumes nothing.
use Rattle.std.proofs.Common.{rules}
use Rattle.rules.specs.Lent.{tables_of}
use Rattle.rules.specs.Sound.{register_good}
use Rattle.tables.proofs.WalkLaws.{fixed_found}
use Rattle.tables.proofs.fixed.bad_fixed.Goals as goal

pub returns : goal.returns
returns c = let found = c.first_bad.ensures (register_good (tables_of c.args.tables.now)) (λ k b l h p. search rules) in search fixed_found
