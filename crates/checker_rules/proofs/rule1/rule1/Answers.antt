-- `rule1::rule1` meets its contract: a record that does not sit breaks the rule; where all sit the walk decides.
-- Assumes nothing.
use Rattle.checker_rules.proofs.TilesLaws.{rule1_loose, rule1_tiled}
use Rattle.checker_rules.proofs.rule1.rule1.Goals as goal

pub returns-then-not-loose : goal.returns-then-not-loose
returns-then-not-loose c = search rule1_loose

pub returns : goal.returns
returns c = search rule1_tiled
