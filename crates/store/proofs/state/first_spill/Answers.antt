-- `store::state::first_spill` meets its contract: of 4,096 homes one has no slot, so the total is at most 8 * 4,095 (`total_most`), and stays within 8 for each (`total_room`).
use Rattle.store.proofs.StateLaws.{total_most, total_room, first_spilled}
use borrow.Author.Rules.{rules}
use Rattle.store.proofs.state.first_spill.Goals as goal

pub round_up-rounded-requires : goal.round_up-rounded-requires
round_up-rounded-requires c = search (rules, total_most)

pub give_home-given-requires : goal.give_home-given-requires
give_home-given-requires c = search (rules, total_room)

pub returns : goal.returns
returns c = search first_spilled
