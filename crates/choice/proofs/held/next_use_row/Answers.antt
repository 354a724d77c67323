-- `choice::held::next_use_row` meets its contract: after the active records from `i` on have had their say, each register is as its holder among them says; the first of them speaks last.
-- Assumes nothing.
use Rattle.choice.proofs.HoldingLaws.{next_starts, next_used, next_rising, seat_fits, seat_span, walk_past, walk_at}
use Rattle.choice.proofs.held.next_use_row.Goals as goal

pub loop-i-init : goal.loop-i-init
loop-i-init c = search next_starts

pub use_position-requires : goal.use_position-requires
use_position-requires c = search next_rising

pub offset_bounds-block-r : goal.offset_bounds-block-r
offset_bounds-block-r c = search seat_span

pub bounds-block-r : goal.bounds-block-r
bounds-block-r c = search seat_fits

pub offset_bounds-next-r : goal.offset_bounds-next-r
offset_bounds-next-r c = search seat_span

pub bounds-next-r : goal.bounds-next-r
bounds-next-r c = search seat_fits

pub loop-i-preserved-in-Some : goal.loop-i-preserved-in-Some
loop-i-preserved-in-Some c = search (next_used, walk_at)

pub loop-i-preserved : goal.loop-i-preserved
loop-i-preserved c = search walk_past
