-- `rule2::fits_in` meets its contract: mentions before the search lie before the record, and after one that lies past it all do.
-- Assumes nothing.
use Rattle.std.proofs.Common.{◌+◌}
use Rattle.checker_rules.proofs.HousedLaws.{FitsTo}
use Rattle.checker_rules.proofs.rule2.fits_in.Given as goal

abbrev pub invariant-loop-m : goal.invariant-loop-m
invariant-loop-m l = FitsTo l.mentions l.fn.range.index (l.fn.range.index + l.fn.range.count) l.r.kind l.r.first l.r.last l.m
