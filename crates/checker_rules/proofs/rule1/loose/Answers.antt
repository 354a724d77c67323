-- `rule1::loose` meets its contract: `all` says that every record sits.
-- Assumes nothing.
use Rattle.checker_rules.proofs.AllLaws.{all_below}
use Rattle.checker_rules.proofs.SaysLaws.{says_same}
use Rattle.checker_rules.specs.Tiles.{Sits}
use mathlib.Core.Path.{refl}
use borrow.Author.Rules.{rules}
use Rattle.checker_rules.proofs.rule1.loose.Goals as goal

pub returns : goal.returns
returns c = says_same (λ f. record { each = f }) (λ l. l.each) (all_below _ _ _ _ (λ k. Sits c.args.records.words.now c.args.intervals.now k) c.all.ensures.ran refl (λ k b f' e. search rules))
