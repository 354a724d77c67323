-- `last_four` meets its contract: each rule is tested where those before it hold, and the first that fails is the lowest broken.
-- Assumes nothing.
use Rattle.checker.proofs.VerdictLaws.{held_4, held_5, held_6, held_7, broken_4, broken_5, broken_6, broken_7}
use Rattle.checker.proofs.ReadyLaws.{tiling_of, below_of, registers_of, few_registers}
use native.Mathlib.Omega.{arith}
use Rattle.checker.proofs.last_four.Goals as goal

pub invariant_of-order : goal.invariant_of-order
invariant_of-order c = record { chains = c.requires.chains.1; below = below_of _ _ c.requires.ready (c.requires.held 1 (omega arith) (omega arith)) }

pub rule4-requires : goal.rule4-requires
rule4-requires c = few_registers _ _ c.requires.ready (c.requires.held 1 (omega arith) (omega arith)) (c.requires.held 3 (omega arith) (omega arith))

pub returns-then-not-rule4 : goal.returns-then-not-rule4
returns-then-not-rule4 c = broken_4 _ _ c.requires.held c.if-not-rule4.ensures

pub rule5-requires : goal.rule5-requires
rule5-requires c = (c.requires.ready.runs, registers_of _ _ c.requires.ready (c.requires.held 1 (omega arith) (omega arith)) (c.requires.held 3 (omega arith) (omega arith)))

pub returns-then-not-rule5 : goal.returns-then-not-rule5
returns-then-not-rule5 c = broken_5 _ _ (held_4 _ _ c.requires.held c.if-not-rule4.ensures) c.if-not-rule5.ensures

pub invariant_of-seats : goal.invariant_of-seats
invariant_of-seats c = record { loose = (tiling_of _ _ c.requires.ready (c.requires.held 1 (omega arith) (omega arith))).loose }

pub returns-then-not-rule6 : goal.returns-then-not-rule6
returns-then-not-rule6 c = broken_6 _ _ (held_5 _ _ (held_4 _ _ c.requires.held c.if-not-rule4.ensures) c.if-not-rule5.ensures) c.if-not-rule6.ensures

pub returns-then-not-rule7 : goal.returns-then-not-rule7
returns-then-not-rule7 c = broken_7 _ _ (held_6 _ _ (held_5 _ _ (held_4 _ _ c.requires.held c.if-not-rule4.ensures) c.if-not-rule5.ensures) c.if-not-rule6.ensures) c.if-not-rule7.ensures

pub returns : goal.returns
returns c = held_7 _ _ (held_6 _ _ (held_5 _ _ (held_4 _ _ c.requires.held c.if-not-rule4.ensures) c.if-not-rule5.ensures) c.if-not-rule6.ensures) c.if-not-rule7.ensures
