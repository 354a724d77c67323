-- `tables::safepoints::first_safepoint` meets its contract: the walk of the interval's range.
-- Assumes nothing.
use Rattle.std.proofs.Common.{rules}
use Rattle.rules.specs.Lent.{tables_of}
use Rattle.rules.specs.Sound.{safepoint_good}
use Rattle.tables.proofs.WalkLaws.{find_in}
use Rattle.tables.proofs.safepoints.first_safepoint.Goals as goal

pub returns-in_err-place : goal.returns-in_err-place
returns-in_err-place c =
    let found = c.first_bad.ensures (safepoint_good (tables_of c.args.tables.now) c.args.i) (λ k b l h p. search rules) in
    let none = rw c.in_err-place.was at found in search (find_in, c.from_residual.ensures, none)

pub returns : goal.returns
returns c =
    let found = c.first_bad.ensures (safepoint_good (tables_of c.args.tables.now) c.args.i) (λ k b l h p. search rules) in
    let place = rw c.in_ok-place.was at found in search (find_in, place)
