-- `tables::fixed::register_good` meets its contract: the fragments are looked at only where the range lies in the table.
-- Assumes nothing.
use Rattle.std.proofs.Common.{rules}
use Rattle.words.specs.Packed.{register_at}
use Rattle.tables.proofs.EntryLaws.{range_inside}
use Rattle.tables.proofs.fixed.register_good.Goals as goal

pub fragments_good-requires : goal.fragments_good-requires
fragments_good-requires c =
    range_inside (register_at c.args.tables.now.registers.now) _ _ c.args.r _ (search rules) (c.if-range_good.ensures (register_at c.args.tables.now.registers.now) (λ j r l p. search rules))
