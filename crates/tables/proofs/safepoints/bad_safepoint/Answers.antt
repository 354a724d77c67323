-- `tables::safepoints::bad_safepoint` meets its contract: the walk of all intervals, each by the walk of its range.
-- Assumes nothing.
use Rattle.std.proofs.Common.{rules}
use Rattle.words.specs.Packed.{interval_at}
use Rattle.rules.specs.Lent.{tables_of}
use Rattle.rules.specs.Sound.{bad_safepoint}
use Rattle.tables.specs.Entries.{safepoint_find}
use Rattle.tables.proofs.WalkLaws.{find_all}
use Rattle.tables.proofs.safepoints.bad_safepoint.Goals as goal

pub returns : goal.returns
unfolding bad_safepoint
returns c =
    let T = tables_of c.args.tables.now in
    find_all _ _ _ _ c.interval_count.ensures (c.first_found.ensures (λ v. safepoint_find T (interval_at T.intervals v)) (λ k r l h p. search rules depth 9))
