-- `tables::mentions::first_mention` meets its contract: the walk of the interval's range.
-- Assumes nothing.
use Rattle.std.proofs.Common.{rules}
use Rattle.rules.specs.Lent.{tables_of}
use Rattle.rules.specs.Sound.{mention_good}
use Rattle.tables.proofs.WalkLaws.{find_in}
use Rattle.tables.proofs.mentions.first_mention.Goals as goal

pub returns : goal.returns
returns c = let found = c.first_bad.ensures (mention_good (tables_of c.args.tables.now) c.args.i) (λ k b l h p. search rules) in search find_in
