-- `choice::held::held_mask` meets its contract: after the active records from `i` on have had their say, the bits are those of the registers that they hold.
-- Assumes nothing.
use Rattle.choice.proofs.HoldingLaws.{mask_starts, mask_past, mask_at, seat_bit}
use Rattle.choice.proofs.held.held_mask.Goals as goal

pub loop-i-init : goal.loop-i-init
loop-i-init c = search mask_starts

pub with_bit-mask-requires : goal.with_bit-mask-requires
with_bit-mask-requires c = search seat_bit

pub loop-i-preserved-in-Some : goal.loop-i-preserved-in-Some
loop-i-preserved-in-Some c = search mask_at

pub loop-i-preserved : goal.loop-i-preserved
loop-i-preserved c = search mask_past
