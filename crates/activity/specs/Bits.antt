-- Words of 64 bits, one for each register. Facts for contracts.
use Rattle.std.specs.Prelude.{ℕ, ◌+◌, ◌/◌, ◌%◌, ◌^◌, ◌≤◌, ◌<◌, ◌≡◌, Bool, true, false, ◌||◌, eqb}
use Rattle.std.specs.Int.Bits.{bit_xor}
use Rattle.words.specs.Choose.{choose}

-- bit r of a word
unfoldable pub has_bit : ℕ → ℕ → Bool
has_bit m r = eqb (m / 2 ^ r % 2) 1

-- bit x besides
pub record WithBit (m x m' : ℕ) : Type 0 where
  pub is : (r : ℕ) → r < 64 → has_bit m' r ≡ (eqb x r || has_bit m r)

-- all bits but x
unfoldable pub without_bit : ℕ → ℕ → ℕ
without_bit m x = choose (has_bit m x) (bit_xor m (2 ^ x)) m

-- where the answer is yes, none of these bits is set
pub record NoneSet (m first count : ℕ) (b : Bool) : Type 0 where
  pub none : b ≡ true → (r : ℕ) → first ≤ r → r < first + count → has_bit m r ≡ false
