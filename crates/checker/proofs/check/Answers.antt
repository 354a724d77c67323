-- `check` meets its contract: the claim is looked at first, then the tables, then the rules.
-- Assumes nothing.
use Rattle.words.proofs.Residual.{passed}
use Rattle.checker.proofs.VerdictLaws.{over_count, over_words, tables_refused, answered}
use Rattle.checker.proofs.ReadyLaws.{ready}
use Rattle.rules.proofs.Accepted.{accepted}
use mathlib.Core.Path.{sym, ◌∙◌}
use Rattle.checker.proofs.check.Goals as goal
use Rattle.checker.proofs.check.Goals.{then-claim-gt-MOST_RECORDS-via-then-claim-gt-MOST_RECORDS, then-claim-gt-MOST_RECORDS-via-else-claim-gt-MOST_RECORDS+then-claim-count}

pub returns-then-claim-gt-MOST_RECORDS : goal.returns-then-claim-gt-MOST_RECORDS
returns-then-claim-gt-MOST_RECORDS c =
    elim c.then-claim-gt-MOST_RECORDS.branch [
      | then-claim-gt-MOST_RECORDS-via-then-claim-gt-MOST_RECORDS w ↦ over_count _ _ w.if-claim-gt-MOST_RECORDS.true
      | then-claim-gt-MOST_RECORDS-via-else-claim-gt-MOST_RECORDS+then-claim-count w ↦ over_words _ _ w.if-claim-gt-MOST_RECORDS.false w.if-claim-count.true
    ]

pub returns-in_err-check_tables : goal.returns-in_err-check_tables
returns-in_err-check_tables c = rw (passed _ _ c.from_residual.ensures.1) (search (tables_refused, c.in_err-check_tables.was))

pub judge-verdict-requires : goal.judge-verdict-requires
judge-verdict-requires c = ready _ (accepted _ (sym c.check_tables.ensures ∙ c.in_ok-check_tables.was)) _ c.if-claim-gt-MOST_RECORDS.false c.if-claim-count.false c.are_words.ensures c.are_words-2.ensures

pub returns : goal.returns
returns c = search (answered, c.in_ok-check_tables.was)
