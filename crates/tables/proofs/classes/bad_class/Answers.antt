-- `tables::classes::bad_class` meets its contract: the walk keeps the sum of the counts, and has found nothing so far.
-- Assumes nothing.
use Rattle.std.proofs.Common.{refl, sym, ◌∙◌}
use Rattle.rules.specs.Lent.{tables_of}
use Rattle.rules.specs.Sound.{class_good, bad_class}
use Rattle.tables.proofs.ClassLaws.{sum_starts, sum_more}
use Rattle.tables.proofs.WalkLaws.{bad_more, bad_here, first_none, find_all}
use Rattle.tables.proofs.classes.bad_class.Goals as goal

pub loop-k-init : goal.loop-k-init
loop-k-init c = record { summed = sum_starts _; clean = sym (find_all _ _ _ _ refl refl) }

pub returns-then-not-class_good : goal.returns-then-not-class_good
unfolding bad_class
returns-then-not-class_good c = sym (c.loop-k.invariant.clean ∙ bad_here (class_good (tables_of c.args.tables.now)) _ _ c.loop-k-test.true c.if-not-class_good.ensures)

pub loop-k-preserved : goal.loop-k-preserved
loop-k-preserved c =
    record {
      summed = sum_more _ _ _ _ c.loop-k-test.true c.loop-k.invariant.summed c.class_at-c.ensures;
      clean = c.loop-k.invariant.clean ∙ bad_more (class_good (tables_of c.args.tables.now)) _ _ c.loop-k-test.true c.if-not-class_good.ensures;
    }

pub returns : goal.returns
unfolding bad_class
returns c = sym (c.loop-k.invariant.clean ∙ first_none _ _ _ c.loop-k-test.false)
