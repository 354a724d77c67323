-- `rule2::rule2` meets its contract: `all` says that every record fits the mentions of its interval.
-- Assumes nothing.
use Rattle.checker_rules.proofs.AllLaws.{all_below}
use Rattle.checker_rules.proofs.HousedLaws.{rule2_of}
use Rattle.checker_rules.specs.Housed.{Fits}
use mathlib.Core.Path.{refl}
use borrow.Author.Rules.{rules}
use Rattle.checker_rules.proofs.rule2.rule2.Goals as goal

pub returns : goal.returns
returns c = rule2_of _ _ _ _ c.requires.0 c.requires.1 _ (all_below _ _ _ _ (λ k. Fits c.args.seats.records.words.now c.args.seats.intervals.now c.args.mentions.now k) c.all.ensures.ran refl (λ k b f' e. search rules))
