-- `activity::bits::with_bit` meets its contract.
use Rattle.activity.proofs.BitLaws.{bit_set}
use Rattle.activity.proofs.bits.with_bit.Goals as goal

pub returns : goal.returns
returns c = search bit_set
