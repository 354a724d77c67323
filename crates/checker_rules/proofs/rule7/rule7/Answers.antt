-- `rule7::rule7` meets its contract: `all` says that every record is safe.
-- Assumes nothing.
use Rattle.checker_rules.proofs.AllLaws.{all_below}
use Rattle.checker_rules.proofs.BridgeLaws.{decides_7}
use Rattle.checker_rules.specs.Safe.{Safe}
use mathlib.Core.Path.{refl}
use borrow.Author.Rules.{rules}
use Rattle.checker_rules.proofs.rule7.rule7.Goals as goal

pub returns : goal.returns
returns c = decides_7 _ _ _ _ _ _ (all_below _ _ _ _ (λ k. Safe c.args.seats.records.words.now c.args.seats.intervals.now c.args.mentions.now c.args.safepoints.now k) c.all.ensures.ran refl (λ k b f' e. search rules))
