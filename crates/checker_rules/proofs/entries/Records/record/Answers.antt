-- `Records::record` meets its contract: it reads the two words of row k.
-- Assumes nothing.
use Rattle.checker_rules.proofs.EntriesLaws.{shown}
use Rattle.checker_rules.proofs.entries.Records.record.Goals as goal

pub returns : goal.returns
returns c = search shown
