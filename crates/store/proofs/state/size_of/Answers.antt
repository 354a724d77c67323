-- `store::state::size_of` meets its contract: the shifted bit stays within the word (`size_shifted`).
use Rattle.store.proofs.StateLaws.{size_shifted}
use Rattle.store.proofs.state.size_of.Goals as goal

pub returns : goal.returns
returns c = size_shifted _ c.requires
