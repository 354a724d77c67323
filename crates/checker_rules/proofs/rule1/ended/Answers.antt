-- `rule1::ended` meets its contract: `all` says that every interval has its end.
-- Assumes nothing.
use Rattle.checker_rules.proofs.AllLaws.{all_below}
use Rattle.checker_rules.proofs.TilesLaws.{ended_is}
use Rattle.checker_rules.specs.Entries.{end_of}
use Rattle.std.proofs.Common.{◌≡◌, ◌+◌, get_or}
use mathlib.Core.Path.{refl}
use borrow.Author.Rules.{rules}
use borrow.Author.Tests.{tests}
use Rattle.checker_rules.proofs.rule1.ended.Goals as goal

pub returns : goal.returns
returns c = ended_is _ _ _ _ _ _ c.requires c.interval_count.ensures (all_below _ _ _ _ (λ v. get_or c.args.expect.now v 0 ≡ end_of c.args.intervals.now v + 1) c.all.ensures.ran refl (λ v b f' e. search (rules, tests)))
