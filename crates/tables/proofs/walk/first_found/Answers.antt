-- `tables::walk::first_found` meets its contract: what is found from the start is what is found from here on.
-- Assumes nothing.
use Rattle.std.proofs.Common.{Some, None, sym, ◌∙◌}
use Rattle.tables.proofs.WalkLaws.{first_more, first_here, first_none}
use Rattle.tables.proofs.walk.first_found.Goals as goal

pub returns-in-Some : goal.returns-in-Some
returns-in-Some g c =
    λ f h. let k = c.loop-k.k in
    sym (c.loop-k.invariant f h ∙ first_here f k c.args.indices.end c.in-Some.j c.loop-k-test.true (sym (h k (Some c.in-Some.j) c.loop-k.auto.k c.loop-k-test.true c.in-Some.ensures)))

pub loop-k-preserved : goal.loop-k-preserved
loop-k-preserved g c =
    λ f h. let k = c.loop-k.k in
    c.loop-k.invariant f h ∙ first_more f k c.args.indices.end c.loop-k-test.true (sym (h k None c.loop-k.auto.k c.loop-k-test.true c.in_default.ensures))

pub returns : goal.returns
returns g c = λ f h. sym (c.loop-k.invariant f h ∙ first_none f c.loop-k.k c.args.indices.end c.loop-k-test.false)
