-- `activity::bits::none_set` meets its contract: what is left once the bits below and above are shifted out.
use Rattle.activity.proofs.BitLaws.{bits_tested}
use Rattle.activity.proofs.bits.none_set.Goals as goal

pub returns-else-count-eq0 : goal.returns-else-count-eq0
returns-else-count-eq0 c = search bits_tested
