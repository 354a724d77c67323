-- `tables::walk::first_bad` meets its contract: a bad entry is found at its own index.
-- Assumes nothing.
use Rattle.std.proofs.Common.{rules}
use Rattle.rules.specs.Sound.{bad_unless}
use Rattle.tables.proofs.walk.first_bad.Goals as goal

pub returns : goal.returns
returns g c = λ t h. c.first_found.ensures (λ k. bad_unless (t k) k) (λ k r a b p. search (rules, h) depth 9)
