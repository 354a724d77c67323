-- `rule3::rule3` meets its contract: `all` says that every record suits.
-- Assumes nothing.
use Rattle.checker_rules.proofs.AllLaws.{all_below}
use Rattle.checker_rules.proofs.BridgeLaws.{decides_3}
use Rattle.checker_rules.specs.Usable.{Suits}
use mathlib.Core.Path.{refl}
use borrow.Author.Rules.{rules}
use Rattle.checker_rules.proofs.rule3.rule3.Goals as goal

pub returns : goal.returns
returns c = decides_3 _ _ _ _ _ (all_below _ _ _ _ (λ k. Suits c.args.seats.records.words.now c.args.seats.intervals.now c.args.classes.now k) c.all.ensures.ran refl (λ k b f' e. search rules))
