-- `rule5::rule5` meets its contract: `all` says that every record is clear.
-- Assumes nothing.
use Rattle.checker_rules.proofs.AllLaws.{all_below}
use Rattle.checker_rules.proofs.BridgeLaws.{decides_5}
use Rattle.checker_rules.specs.Fixed.{Clear}
use mathlib.Core.Path.{refl}
use borrow.Author.Rules.{rules}
use Rattle.checker_rules.proofs.rule5.rule5.Goals as goal

pub returns : goal.returns
returns c = decides_5 _ _ _ _ _ (all_below _ _ _ _ (λ k. Clear c.args.records.words.now c.args.registers.now c.args.fragments.now k) c.all.ensures.ran refl (λ k b f' e. search rules))
