-- `store::state::give_home` meets its contract: a store below the intervals is one in the list of homes, and one home more has a slot (`home_given`).
use Rattle.store.proofs.StateLaws.{home_given}
use Rattle.store.proofs.state.give_home.Goals as goal

pub returns : goal.returns
returns c = search home_given
