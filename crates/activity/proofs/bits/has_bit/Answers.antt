-- `activity::bits::has_bit` meets its contract.
use Rattle.activity.proofs.BitLaws.{bit_test}
use Rattle.activity.proofs.bits.has_bit.Goals as goal

pub returns : goal.returns
returns c = search bit_test
