-- `rule2::fits_in` meets its contract: mentions before the search lie before the record, and after one that lies past it all do.
-- Assumes nothing.
use Rattle.checker_rules.proofs.HousedLaws.{fits_past, fits_more}
use Rattle.checker_rules.proofs.rule2.fits_in.Goals as goal

pub returns-then-r-lowest : goal.returns-then-r-lowest
returns-then-r-lowest c = search fits_past

pub loop-m-preserved : goal.loop-m-preserved
loop-m-preserved c = search fits_more
