-- `all_seven` meets its contract: each rule is tested where those before it hold; rule 1 leaves the order that rule 4 walks.
-- Assumes nothing.
use Rattle.checker.proofs.VerdictLaws.{held_1, held_2, held_3, broken_1, broken_2, broken_3}
use Rattle.checker.proofs.all_seven.Goals as goal

pub returns-then-not-rule1 : goal.returns-then-not-rule1
returns-then-not-rule1 c = broken_1 _ _ c.if-not-rule1.ensures.decides

pub returns-then-not-rule2 : goal.returns-then-not-rule2
returns-then-not-rule2 c = broken_2 _ _ (held_1 _ _ c.if-not-rule1.ensures.decides) c.if-not-rule2.ensures

pub returns-then-not-rule3 : goal.returns-then-not-rule3
returns-then-not-rule3 c = broken_3 _ _ (held_2 _ _ (held_1 _ _ c.if-not-rule1.ensures.decides) c.if-not-rule2.ensures) c.if-not-rule3.ensures

pub last_four-requires-clause-held : goal.last_four-requires-clause-held
last_four-requires-clause-held c = held_3 _ _ (held_2 _ _ (held_1 _ _ c.if-not-rule1.ensures.decides) c.if-not-rule2.ensures) c.if-not-rule3.ensures
