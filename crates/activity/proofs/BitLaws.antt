-- Bits of a word: one set besides or cleared, the others as they were; none of some. Assumes nothing.
use Prim.Native.Nat.{ℕ, ◌+◌, ◌-◌, ◌*◌, ◌/◌, ◌%◌, ◌^◌, ◌≤◌, ◌<◌}
use mathlib.Core.Path.{◌≡◌, refl, sym, ap, ◌∙◌}
use mathlib.Core.Bool.{Bool, true, false, ◌||◌}
use native.Mathlib.Omega.{arith}
use native.Mathlib.Decide.{ℕ_discrete}
use native.Mathlib.Nat.{one-mul, mul-div_cancel, mul-mod_left}
use lib.Arith.{mod-mul}
use lib.Bits.{bit_and, bit_or, bit_xor, and_mask}
use lib.Dec.{eqb}
use lib.Pow.{pow_pos, pow-add, pow-lt, shl_exact, shl-shr, shr-shr, high, field, mod-mod-pow, ones_split, ones_lt}
use borrow.Author.Tests.{eq-eqb, ne_eqb, eqb-true}
use Rattle.std.specs.Int.{w64}
use Rattle.std.specs.Int.Bits.{xor_add_and}
use Rattle.std.proofs.lemmas.Nat.{and-not, and_comm}
use Rattle.std.proofs.lemmas.Nat.Bits.{bit_at-zero, bit_at_xor, bit_at-pow_other, bit_at_set_same, bit_at_set_other, and_pow}
use Rattle.words.specs.Choose.{choose}
use Rattle.activity.specs.Bits.{has_bit, without_bit, WithBit, NoneSet}

-- what the code tests
pub bit_test : (m r : ℕ) → eqb (bit_and (m / 2 ^ r) 1) 1 ≡ has_bit m r
unfolding has_bit
bit_test m r = ap (λ (x : ℕ). eqb x 1) (and_mask (m / 2 ^ r) 1)

-- ---- a word with a bit besides
pub bit_set : (m x : ℕ) → x < 64 → WithBit m x (bit_or m ((1 * 2 ^ x) % 2 ^ 64))
unfolding has_bit
bit_set m x h = record { is = λ r l. go r (ℕ_discrete x r) }
  where
    go : (r : ℕ) → Dec (x ≡ r) → eqb (bit_or m ((1 * 2 ^ x) % 2 ^ 64) / 2 ^ r % 2) 1 ≡ (eqb x r || eqb (m / 2 ^ r % 2) 1)
    go r (yes e) = let z : bit_or m ((1 * 2 ^ x) % 2 ^ 64) / 2 ^ r % 2 ≡ 1 = rw (← e) (bit_at_set_same w64 m x h) in rw (z, eq-eqb x r e) refl
    go r (no d) = rw (bit_at_set_other w64 m x h r (λ q. d (sym q)), ne_eqb x r d) refl

pub no_bit : (r : ℕ) → has_bit 0 r ≡ false
unfolding has_bit
no_bit r = rw (bit_at-zero r) refl

-- ---- a word without a bit
xor_other : (m x r : ℕ) → (x ≡ r → ⊥) → has_bit (bit_xor m (2 ^ x)) r ≡ has_bit m r
unfolding has_bit
xor_other m x r d =
    let z : bit_xor m (2 ^ x) / 2 ^ r % 2 ≡ m / 2 ^ r % 2 = bit_at_xor m (2 ^ x) r ∙ rw (bit_at-pow_other x r (λ q. d (sym q))) (omega arith) in
    rw z refl

-- the others stay
pub without_other : (m x r : ℕ) → (x ≡ r → ⊥) → has_bit (without_bit m x) r ≡ has_bit m r
unfolding without_bit
without_other m x r g = go (has_bit m x)
  where
    go : (b : Bool) → has_bit (choose b (bit_xor m (2 ^ x)) m) r ≡ has_bit m r
    go true = xor_other m x r g
    go false = refl

-- and all do where it is not set
pub without_none : (m x : ℕ) → has_bit m x ≡ false → without_bit m x ≡ m
unfolding without_bit
without_none m x h = rw h refl

-- what the code clears
pub bit_cleared : (m x : ℕ) → m < 2 ^ 64 → x < 64 → bit_and m (18446744073709551615 - (1 * 2 ^ x) % 2 ^ 64) ≡ without_bit m x
unfolding without_bit has_bit
bit_cleared m x l h =
    let w : (1 * 2 ^ x) % 2 ^ 64 ≡ 2 ^ x = shl_exact 1 x 64 (omega arith) (omega arith) ∙ one-mul (2 ^ x) in
    rw w (go (ℕ_discrete (m / 2 ^ x % 2) 1))
  where
    rest : bit_and m (18446744073709551615 - 2 ^ x) + m / 2 ^ x % 2 * 2 ^ x ≡ m
    rest = omega (arith, and-not 64 (2 ^ x) m (pow-lt h) l, and_comm m (18446744073709551615 - 2 ^ x), and_comm (2 ^ x) m, and_pow m x)

    go : Dec (m / 2 ^ x % 2 ≡ 1) → bit_and m (18446744073709551615 - 2 ^ x) ≡ choose (eqb (m / 2 ^ x % 2) 1) (bit_xor m (2 ^ x)) m
    go (yes e) =
        let k : m / 2 ^ x % 2 * 2 ^ x ≡ 2 ^ x = rw e (omega arith) in
        rw (eq-eqb _ _ e) (omega (arith, rest, xor_add_and m (2 ^ x), and_pow m x, k))
    go (no d) =
        let z : m / 2 ^ x % 2 ≡ 0 = omega arith in
        let k : m / 2 ^ x % 2 * 2 ^ x ≡ 0 = rw z (omega arith) in
        rw (ne_eqb _ _ d) (omega (arith, rest, k))

-- ---- none of some bits
-- what the code tests: the bits below first are shifted out, then those above
low_none : (a count : ℕ) → count ≤ 64 → a * 2 ^ (64 - count) % 2 ^ 64 ≡ 0 → a % 2 ^ count ≡ 0
low_none a count h z =
    let k : ℕ = 2 ^ (64 - count) in
    let p : 0 < k = pow_pos (64 - count) in
    let e : 64 ≡ count + (64 - count) = omega arith in
    let w : 2 ^ 64 ≡ 2 ^ count * k = ap (λ (n : ℕ). 2 ^ n) e ∙ pow-add 2 count (64 - count) in
    let m : a * k % (2 ^ count * k) ≡ (a * k / k % 2 ^ count) * k + a * k % k = mod-mul (a * k) (pow_pos count) p in
    let q : a * k / k ≡ a = mul-div_cancel a p in
    let s : a * k % k ≡ 0 = mul-mod_left a k in
    let t : (a % 2 ^ count) * k ≡ 0 = let u : (a % 2 ^ count) * k + 0 ≡ 0 = sym (m ∙ rw (q, s) refl) ∙ ap (λ (n : ℕ). a * k % n) (sym w) ∙ z in omega arith in
    go (a % 2 ^ count) k p t
  where
    go : (b k : ℕ) → 0 < k → b * k ≡ 0 → b ≡ 0
    go b k p t = sym (mul-div_cancel b p) ∙ ap (λ (n : ℕ). n / k) t ∙ zero_div k p
      where
        zero_div : (k : ℕ) → 0 < k → 0 / k ≡ 0
        zero_div k p = ap (λ (n : ℕ). n / k) (let y : 0 ≡ 0 * k = omega arith in y) ∙ mul-div_cancel 0 p

low_bit : (a count j : ℕ) → j < count → a % 2 ^ count ≡ 0 → a / 2 ^ j % 2 ≡ 0
low_bit a count j h z =
    let e : count ≡ count - j - 1 + (1 + j) = omega arith in
    let w : a % 2 ^ (count - j - 1 + (1 + j)) ≡ 0 = ap (λ (n : ℕ). a % 2 ^ n) (sym e) ∙ z in
    let m : a % 2 ^ (1 + j) ≡ 0 = sym (mod-mod-pow a (count - j - 1) (1 + j)) ∙ ap (λ (n : ℕ). n % 2 ^ (1 + j)) w ∙ none (1 + j) in
    sym (field a 1 j) ∙ ap (λ (n : ℕ). n / 2 ^ j) m ∙ shr_none j
  where
    none : (k : ℕ) → 0 % 2 ^ k ≡ 0
    none k = let y : 0 ≡ 0 * 2 ^ k = omega arith in ap (λ (n : ℕ). n % 2 ^ k) y ∙ mul-mod_left 0 (2 ^ k)

    shr_none : (k : ℕ) → 0 / 2 ^ k ≡ 0
    shr_none k = let y : 0 ≡ 0 * 2 ^ k = omega arith in ap (λ (n : ℕ). n / 2 ^ k) y ∙ shl-shr 0 k

class_none : (m first count : ℕ) → first + count ≤ 64 → (m / 2 ^ first * 2 ^ (64 - count)) % 2 ^ 64 ≡ 0 → (r : ℕ) → first ≤ r → r < first + count → has_bit m r ≡ false
unfolding has_bit
class_none m first count h z r a l =
    let e : r ≡ first + (r - first) = omega arith in
    let w : m / 2 ^ r ≡ m / 2 ^ first / 2 ^ (r - first) = ap (λ (n : ℕ). m / 2 ^ n) e ∙ sym (shr-shr m first (r - first)) in
    let b : m / 2 ^ first / 2 ^ (r - first) % 2 ≡ 0 = low_bit (m / 2 ^ first) count (r - first) (omega arith) (low_none (m / 2 ^ first) count (omega arith) z) in
    rw (w, b) refl

pub bits_tested : (m first count : ℕ) (b : Bool) → first + count ≤ 64 → b ≡ eqb ((m / 2 ^ first * 2 ^ (64 - count)) % 2 ^ 64) 0 → NoneSet m first count b
bits_tested m first count b h e = record { none = λ q. class_none m first count h (eqb-true _ 0 (sym e ∙ q)) }

-- ---- every bit is set in the largest word
pub all_bits : (r : ℕ) → r < 64 → has_bit 18446744073709551615 r ≡ true
unfolding has_bit
all_bits r h =
    let e : 64 ≡ 63 - r + 1 + r = omega arith in
    let w : 18446744073709551615 ≡ (2 ^ (63 - r + 1) - 1) * 2 ^ r + (2 ^ r - 1) = ap (λ (n : ℕ). 2 ^ n - 1) e ∙ ones_split (63 - r + 1) r in
    let q : 18446744073709551615 / 2 ^ r ≡ 2 ^ (63 - r + 1) - 1 = ap (λ (n : ℕ). n / 2 ^ r) w ∙ high (2 ^ (63 - r + 1) - 1) r (ones_lt r) in
    let d : 2 ^ (63 - r + 1) ≡ 2 ^ (63 - r) * 2 = pow-add 2 (63 - r) 1 in
    let o : (2 ^ (63 - r + 1) - 1) % 2 ≡ 1 = omega (arith, pow_pos (63 - r), d) in
    rw (q, o) refl
