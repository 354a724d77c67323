-- `store::cells::place_of` meets its contract: each arm is a case of `place_of`.
use Rattle.std.proofs.Common.{arith}
use Rattle.store.proofs.WordLaws.{place_register, place_slot, place_nowhere}
use Rattle.store.proofs.cells.place_of.Goals as goal

pub returns-in-1 : goal.returns-in-1
returns-in-1 c = search place_register

pub returns-in-2 : goal.returns-in-2
returns-in-2 c = search place_slot

pub returns-in_default : goal.returns-in_default
returns-in_default c = place_nowhere _ _ (λ e. omega arith) (λ e. omega arith)
