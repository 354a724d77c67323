-- What is packed is read back: each field of each entry, by the one law of fields, `field_is`.
-- Assumes nothing.
use Prim.Native.Nat.{ℕ, ◌+◌, ◌*◌, ◌^◌, ◌<◌}
use mathlib.Core.Path.{◌≡◌, refl}
use mathlib.Core.Bool.{Bool, true, false}
use native.Mathlib.Omega.{arith}
use lib.Dec.{eqb}
use Rattle.words.specs.Field.{join, bits, bit}
use Rattle.words.specs.Packed.{class_in, class_word, ClassFits, range_in, range_word, fragment_in, fragment_word, interval_at, interval_row, kind_word, IntervalFits, mention_in, mention_word, MentionFits, record_in, RecordFits}
use Rattle.words.specs.declared.Range.{Range}
use Rattle.words.specs.declared.Class.{Class}
use Rattle.words.specs.declared.Fragment.{Fragment}
use Rattle.words.specs.declared.Interval.{Interval}
use Rattle.words.specs.declared.Mention.{Mention}
use Rattle.words.specs.declared.Record.{Record}
use Rattle.words.proofs.Field.{field_is}

bit_lt : (b : Bool) → bit b < 2
bit_lt true = omega arith
bit_lt false = omega arith

-- a flag is read back
flag_bit : (b : Bool) → eqb (bit b) 1 ≡ b
flag_bit true = refl
flag_bit false = refl

-- a word of two halves
halves : (hi lo : ℕ) → hi < 2 ^ 16 → lo < 2 ^ 16 → (bits 16 16 (join 16 hi lo) ≡ hi) × (bits 0 16 (join 16 hi lo) ≡ lo)
halves hi lo h l = (field_is 16 16 _ 0 hi lo (omega arith) h l, field_is 0 16 _ hi lo 0 (omega arith) l (omega arith))

pub range_back : (r : Range) → r.index < 2 ^ 16 → r.count < 2 ^ 16 → range_in (range_word r) ≡ r
range_back r h l = let a = halves r.index r.count h l in rw (a.0, a.1)

pub fragment_back : (f : Fragment) → f.first < 2 ^ 16 → f.last < 2 ^ 16 → fragment_in (fragment_word f) ≡ f
fragment_back f h l = let a = halves f.first f.last h l in rw (a.0, a.1)

pub class_back : (c : Class) → ClassFits c → class_in (class_word c) ≡ c
class_back c h =
    let l : bit c.scratched < 2 = bit_lt c.scratched in
    let first = field_is 24 8 (class_word c) 0 c.first (c.count * 2 ^ 16 + bit c.scratched * 2 ^ 15 + c.scratch * 2 ^ 7 + c.spare) (omega arith) (omega arith) (omega arith) in
    let count = field_is 16 8 (class_word c) c.first c.count (bit c.scratched * 2 ^ 15 + c.scratch * 2 ^ 7 + c.spare) (omega arith) (omega arith) (omega arith) in
    let has = field_is 15 1 (class_word c) (c.first * 2 ^ 8 + c.count) (bit c.scratched) (c.scratch * 2 ^ 7 + c.spare) (omega arith) (omega arith) (omega arith) in
    let scratch = field_is 7 8 (class_word c) (c.first * 2 ^ 9 + c.count * 2 + bit c.scratched) c.scratch c.spare (omega arith) (omega arith) (omega arith) in
    let spare = field_is 0 7 (class_word c) (c.first * 2 ^ 17 + c.count * 2 ^ 9 + bit c.scratched * 2 ^ 8 + c.scratch) c.spare 0 (omega arith) (omega arith) (omega arith) in
    rw (first, count, has, flag_bit, scratch, spare)

-- an interval is read back from its four words
pub interval_back : (i : Interval) → IntervalFits i → i.start < 2 ^ 16 → i.end < 2 ^ 16 → i.mentions.index < 2 ^ 16 → i.mentions.count < 2 ^ 16 → i.safepoints.index < 2 ^ 16 → i.safepoints.count < 2 ^ 16
    → interval_at (interval_row i) 0 ≡ i
interval_back i h s e mi mc si sc =
    let l : bit i.reference < 2 = bit_lt i.reference in
    let class = field_is 29 3 (kind_word i) 0 i.class (bit i.reference * 2 ^ 28 + i.log_size * 2 ^ 26 + i.spare) (omega arith) (omega arith) (omega arith) in
    let has = field_is 28 1 (kind_word i) i.class (bit i.reference) (i.log_size * 2 ^ 26 + i.spare) (omega arith) (omega arith) (omega arith) in
    let log = field_is 26 2 (kind_word i) (i.class * 2 + bit i.reference) i.log_size i.spare (omega arith) (omega arith) (omega arith) in
    let spare = field_is 0 26 (kind_word i) (i.class * 8 + bit i.reference * 4 + i.log_size) i.spare 0 (omega arith) (omega arith) (omega arith) in
    let points = halves i.start i.end s e in
    let ments = halves i.mentions.index i.mentions.count mi mc in
    let safes = halves i.safepoints.index i.safepoints.count si sc in
    rw (class, has, flag_bit, log, spare, points.0, points.1, ments.0, ments.1, safes.0, safes.1)

pub mention_back : (m : Mention) → MentionFits m → mention_in (mention_word m) ≡ m
mention_back m h =
    let u : bit m.uses < 2 = bit_lt m.uses in
    let o : bit m.mods < 2 = bit_lt m.mods in
    let d : bit m.defs < 2 = bit_lt m.defs in
    let instruction = field_is 17 15 (mention_word m) 0 m.instruction (m.spare * 8 + bit m.uses * 4 + bit m.mods * 2 + bit m.defs) (omega arith) (omega arith) (omega arith) in
    let spare = field_is 3 14 (mention_word m) m.instruction m.spare (bit m.uses * 4 + bit m.mods * 2 + bit m.defs) (omega arith) (omega arith) (omega arith) in
    let uses = field_is 2 1 (mention_word m) (m.instruction * 2 ^ 14 + m.spare) (bit m.uses) (bit m.mods * 2 + bit m.defs) (omega arith) (omega arith) (omega arith) in
    let mods = field_is 1 1 (mention_word m) (m.instruction * 2 ^ 15 + m.spare * 2 + bit m.uses) (bit m.mods) (bit m.defs) (omega arith) (omega arith) (omega arith) in
    let defs = field_is 0 1 (mention_word m) (m.instruction * 2 ^ 16 + m.spare * 4 + bit m.uses * 2 + bit m.mods) (bit m.defs) 0 (omega arith) (omega arith) (omega arith) in
    rw (instruction, spare, uses, mods, defs, flag_bit m.uses, flag_bit m.mods, flag_bit m.defs)

-- a record is read back from its two words
pub record_back : (r : Record) → RecordFits r → r.number < 2 ^ 16 → r.first < 2 ^ 16 → r.last < 2 ^ 16
    → record_in (join 16 (join 2 (join 12 r.kind r.interval) r.spare) r.number) (join 16 r.first r.last) ≡ r
record_back r h n f l =
    let w : ℕ = join 16 (join 2 (join 12 r.kind r.interval) r.spare) r.number in
    let kind = field_is 30 2 w 0 r.kind (r.interval * 2 ^ 18 + r.spare * 2 ^ 16 + r.number) (omega arith) (omega arith) (omega arith) in
    let interval = field_is 18 12 w r.kind r.interval (r.spare * 2 ^ 16 + r.number) (omega arith) (omega arith) (omega arith) in
    let spare = field_is 16 2 w (r.kind * 2 ^ 12 + r.interval) r.spare r.number (omega arith) (omega arith) (omega arith) in
    let number = field_is 0 16 w (r.kind * 2 ^ 14 + r.interval * 4 + r.spare) r.number 0 (omega arith) (omega arith) (omega arith) in
    let points = halves r.first r.last f l in
    rw (kind, interval, spare, number, points.0, points.1)
