-- `split::splits::split_and_queue` meets its contract: 10 where there is no record, else the split of `split` and the new record queued.
-- Assumes nothing.
use Rattle.split.proofs.SplitLaws.{full, queued}
use borrow.Author.Rules.{rules}
use Rattle.split.proofs.splits.split_and_queue.Goals as goal

pub returns-then-cap-new : goal.returns-then-cap-new
returns-then-cap-new c = search (rules, full)

pub returns : goal.returns
returns c = search (rules, queued)
