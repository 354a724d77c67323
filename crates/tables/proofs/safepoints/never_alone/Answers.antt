-- `tables::safepoints::never_alone` meets its contract: the mentions ascend, so the one that the search finds is the only one that may be at s.
-- Assumes nothing.
use Rattle.std.proofs.Common.{arith}
use Rattle.tables.proofs.SafepointLaws.{words_rise, none_there, one_there}
use Rattle.tables.proofs.safepoints.never_alone.Goals as goal

pub lower-k-requires : goal.lower-k-requires
lower-k-requires c = words_rise _ _ c.requires c.type_inv.mentions _ c.end-end.ensures

pub returns-then-end-k : goal.returns-then-end-k
returns-then-end-k c = none_there _ _ c.requires c.type_inv.mentions _ _ _ c.end-end.ensures c.lower-k.ensures c.if-end-k.true

pub returns-then-m : goal.returns-then-m
returns-then-m c =
    let e = one_there _ _ c.requires c.type_inv.mentions _ _ _ _ c.end-end.ensures c.lower-k.ensures c.if-end-k.false c.mention_at-m.ensures in
    grind (arith, e)

pub returns-else-m : goal.returns-else-m
returns-else-m c =
    let e = one_there _ _ c.requires c.type_inv.mentions _ _ _ _ c.end-end.ensures c.lower-k.ensures c.if-end-k.false c.mention_at-m.ensures in
    grind (arith, e)
