-- `rule6::settle` meets its contract: each return is one of the ways a slot record can stand to those before it.
-- Assumes nothing.
use Rattle.checker_rules.proofs.SlotsLaws.{put_differs, put_same, put_clash, put_first}
use native.Mathlib.Nat.{lt_of_lt_of_le}
use mathlib.Core.Path.{refl}
use Rattle.checker_rules.proofs.rule6.settle.Goals as goal

pub returns-then-old-s : goal.returns-then-old-s
returns-then-old-s c = search put_same

pub returns-else-old-s : goal.returns-else-old-s
returns-else-old-s c = put_differs _ _ _ _ _ _ _ _ c.requires.placed c.requires.place c.record-r.ensures.shown c.if-r-ne-IN_SLOT.false _ _ c.interval.ensures c.size_of-z.ensures _ refl c.if-old-ne0.true c.if-old-s.false

pub returns-then-not-unowned : goal.returns-then-not-unowned
returns-then-not-unowned c = search put_clash

pub returns : goal.returns
returns c = put_first _ _ _ _ _ _ _ _ c.requires.placed c.requires.place c.record-r.ensures.shown c.if-r-ne-IN_SLOT.false _ _ c.interval.ensures c.size_of-z.ensures _ refl c.if-old-ne0.false _ _ refl refl _ _ _ (lt_of_lt_of_le c.record-r.ensures.names c.requires.room.0) c.if-s-z-ne0.false c.unowned.ensures c.if-not-unowned.false _ refl c.own.ensures refl _ c.max.ensures
