-- What a piece's and a home's words read as, and that what is packed is read back.
-- Assumes nothing.
use Rattle.std.specs.Prelude.{Option, None, Some}
use Prim.Native.Nat.{ℕ, ◌+◌, ◌/◌, ◌%◌, ◌^◌, ◌<◌}
use mathlib.Core.Path.{◌≡◌, refl, sym, ap, ◌∙◌}
use native.Mathlib.Omega.{arith}
use borrow.Author.Tests.{eq-eqb, ne_eqb}
use Rattle.words.specs.Field.{join}
use Rattle.words.specs.Packed.{record_in, range_in, range_word}
use Rattle.words.specs.declared.Record.{Record}
use Rattle.words.specs.declared.Range.{Range}
use Rattle.words.proofs.Field.{bits_lt}
use Rattle.words.proofs.Packed.{record_back, range_back}
use Rattle.rules.specs.declared.Piece.{Piece}
use Rattle.rules.specs.declared.Place.{Place}
use Rattle.rules.specs.declared.Place.TheVariants.{Nowhere, Register, Slot}
use Rattle.rules.specs.Call.{kind_of, number_of, record_for}
use Rattle.store.specs.Cells.{place_of, piece_in, Unpacked, home_in, home_word, HomePacked}

-- a place by its kind
module _ (kind number : ℕ) where
  pub place_register : kind ≡ 1 → Register number ≡ place_of kind number
  unfolding place_of
  place_register e = simp (eq-eqb kind 1 e)

  pub place_slot : kind ≡ 2 → Slot number ≡ place_of kind number
  unfolding place_of
  place_slot e = simp (ne_eqb kind 1 (λ f. omega arith), eq-eqb kind 2 e)

  pub place_nowhere : (kind ≡ 1 → ⊥) → (kind ≡ 2 → ⊥) → Nowhere ≡ place_of kind number
  unfolding place_of
  place_nowhere f g = simp (ne_eqb kind 1 f, ne_eqb kind 2 g)

-- a piece, from the record that its first two words are and the ranges that the others are
pub piece_made : (w0 w1 w2 w3 : ℕ) (r : Record) (p : Place) (m s : Range) → r ≡ record_in w0 w1 → p ≡ place_of r.kind r.number → m ≡ range_in w2 → s ≡ range_in w3
    → Unpacked w0 w1 w2 w3 (record { interval = r.interval; place = p; start = r.first; end = r.last; mentions = m; safepoints = s })
unfolding piece_in
piece_made w0 w1 w2 w3 r p m s e f g h =
    record { is = rw (f, g, h, e); small = rw e (bits_lt 18 12 w0) }

-- a place is read back from its kind and number
place_back : (p : Place) → place_of (kind_of p) (number_of p) ≡ p
place_back Nowhere = sym (place_nowhere 0 0 (λ e. omega arith) (λ e. omega arith))
place_back (Register r) = sym (place_register 1 r refl)
place_back (Slot t) = sym (place_slot 2 t refl)

-- the sizes of a record's fields
pub record Sized (r : Record) : Type 0 where
  pub kind : r.kind < 4
  pub interval : r.interval < 4096
  pub spare : r.spare < 4
  pub number : r.number < 2 ^ 16
  pub first : r.first < 2 ^ 16
  pub last : r.last < 2 ^ 16

-- the first two words of a piece
abbrev pub word0 : Record → ℕ
word0 r = join 16 (join 2 (join 12 r.kind r.interval) r.spare) r.number

abbrev pub word1 : Record → ℕ
word1 r = join 16 r.first r.last

-- what is packed is read back
pub piece_back : (q : Piece) (r : Record) → r ≡ record_for q → Sized r
    → q.mentions.index < 2 ^ 16 → q.mentions.count < 2 ^ 16 → q.safepoints.index < 2 ^ 16 → q.safepoints.count < 2 ^ 16
    → piece_in (word0 r) (word1 r) (range_word q.mentions) (range_word q.safepoints) ≡ q
unfolding piece_in
piece_back q r e z a b c d =
    let f : record_in (word0 r) (word1 r) ≡ record_for q = record_back r (record { kind = z.kind; interval = z.interval; spare = z.spare }) z.number z.first z.last ∙ e in
    ap (λ (x : Record). record { interval = x.interval; place = place_of x.kind x.number; start = x.first; end = x.last; mentions = range_in (range_word q.mentions); safepoints = range_in (range_word q.safepoints) }) f
    ∙ rw (place_back q.place, range_back q.mentions a b, range_back q.safepoints c d)

pub home_back : (h : Option ℕ) (r : ℕ) → HomePacked h r → home_in r ≡ h
unfolding home_in home_word
home_back h r p = ap home_in p.is ∙ by h (omega (arith, p.is, p.small))
  where
    by : (h : Option ℕ) → home_word h < 131072 → home_in (home_word h) ≡ h
    by None l = refl
    by (Some t) l = let e : (65536 + t) / 65536 ≡ 1 = omega arith in let f : (65536 + t) % 65536 ≡ t = omega arith in simp (e, f)

-- a home by its word
pub home_none : (w : ℕ) → w / 65536 ≡ 0 → None ≡ home_in w
unfolding home_in
home_none w e = simp (eq-eqb (w / 65536) 0 e)

pub home_some : (w : ℕ) → (w / 65536 ≡ 0 → ⊥) → Some (w % 65536) ≡ home_in w
unfolding home_in
home_some w f = simp (ne_eqb (w / 65536) 0 f)

-- the word of a home
pub word_none : (h : Option ℕ) → h ≡ None → HomePacked h 0
unfolding home_word
word_none h e = record { is = rw e; small = omega arith }

pub word_some : (h : Option ℕ) (t : ℕ) → h ≡ Some t → t < 65536 → HomePacked h (65536 + t)
unfolding home_word
word_some h t e l = record { is = rw e; small = omega arith }
