-- `store::state::spill` meets its contract: the home that was read is the one that the rule asks about (`home_found`, `spilled_by`), and each arm is a case of `spill_to`.
use Rattle.std.proofs.Common.{refl}
use Rattle.store.proofs.StateLaws.{home_found, homeless, spilled_again, spilled_by}
use Rattle.store.proofs.state.spill.Goals as goal

pub first_spill-requires-clause-homeless : goal.first_spill-requires-clause-homeless
first_spill-requires-clause-homeless c = homeless _ _ _ _ _ _ (home_found _ _ _ _ _ _ _ c.piece-v.ensures refl c.in-None.ensures) refl

pub returns-in-None : goal.returns-in-None
returns-in-None c = spilled_by _ _ _ _ _ _ _ _ _ _ _ _ (home_found _ _ _ _ _ _ _ c.piece-v.ensures refl c.in-None.ensures) c.first_spill.ensures

pub returns-in-Some : goal.returns-in-Some
returns-in-Some c = spilled_by _ _ _ _ _ _ _ _ _ _ _ _ (home_found _ _ _ _ _ _ _ c.piece-v.ensures refl c.in-Some.ensures) (spilled_again _ _ _ _ c.piece-v.result.interval _ _ _ _ _ _ _ _ refl c.put_place.ensures)
