-- `activity::bits::without_bit` meets its contract.
use Rattle.activity.proofs.BitLaws.{bit_cleared}
use Rattle.activity.proofs.bits.without_bit.Goals as goal

pub returns : goal.returns
returns c = search bit_cleared
