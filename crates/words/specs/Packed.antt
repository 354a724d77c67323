-- Document 01, "Points and packed words": how each word is read, and how it is packed. "All tables are u32 words, fields most significant first, spare bits zero."
use Rattle.std.specs.Prelude.{ℕ, ◌+◌, ◌*◌, ◌/◌, ◌^◌, ◌<◌, List, [], ◌∷◌, length, get_or, take, drop}
use Rattle.words.specs.Field.{bits, flag, bit, join}
use Rattle.words.specs.declared.Range.{Range}
use Rattle.words.specs.declared.Class.{Class}
use Rattle.words.specs.declared.Fragment.{Fragment}
use Rattle.words.specs.declared.Interval.{Interval}
use Rattle.words.specs.declared.Mention.{Mention}
use Rattle.words.specs.declared.Record.{Record}

-- Class: first register 8, count 8, has-scratch 1, scratch 8, spare 7.
abbrev pub class_in : ℕ → Class
class_in w = record { first = bits 24 8 w; count = bits 16 8 w; scratched = flag 15 w; scratch = bits 7 8 w; spare = bits 0 7 w }

abbrev pub class_word : Class → ℕ
class_word c = join 7 (join 8 (join 1 (join 8 c.first c.count) (bit c.scratched)) c.scratch) c.spare

pub record ClassFits (c : Class) : Type 0 where
  pub first : c.first < 256
  pub count : c.count < 256
  pub scratch : c.scratch < 256
  pub spare : c.spare < 128

abbrev pub class_at : List ℕ → ℕ → Class
class_at cs c = class_in (get_or cs c 0)

-- "index 16, count 16"
abbrev pub range_in : ℕ → Range
range_in w = record { index = bits 16 16 w; count = bits 0 16 w }

abbrev pub range_word : Range → ℕ
range_word r = join 16 r.index r.count

-- Register: first fragment index 16, fragment count 16.
abbrev pub register_at : List ℕ → ℕ → Range
register_at rs r = range_in (get_or rs r 0)

-- Fragment: first point 16, last point 16.
abbrev pub fragment_in : ℕ → Fragment
fragment_in w = record { first = bits 16 16 w; last = bits 0 16 w }

abbrev pub fragment_word : Fragment → ℕ
fragment_word f = join 16 f.first f.last

-- Interval, 4 words: class 3, reference 1, log2 of slot size 2 (sizes 1, 2, 4, 8), spare 26; start 16, end 16; mention index 16, count 16; safepoint index 16, count 16.
abbrev pub interval_in : ℕ → ℕ → ℕ → ℕ → Interval
interval_in w0 w1 w2 w3 =
    record {
      class = bits 29 3 w0;
      reference = flag 28 w0;
      log_size = bits 26 2 w0;
      spare = bits 0 26 w0;
      start = bits 16 16 w1;
      end = bits 0 16 w1;
      mentions = range_in w2;
      safepoints = range_in w3;
    }

abbrev pub kind_word : Interval → ℕ
kind_word i = join 26 (join 2 (join 1 i.class (bit i.reference)) i.log_size) i.spare

abbrev pub interval_row : Interval → List ℕ
interval_row i =
    kind_word i
    ∷ join 16 i.start i.end
    ∷ range_word i.mentions
    ∷ range_word i.safepoints
    ∷ []

pub record IntervalFits (i : Interval) : Type 0 where
  pub class : i.class < 8
  pub log : i.log_size < 4
  pub spare : i.spare < 2 ^ 26

-- sizes 1, 2, 4, 8
abbrev pub size_of : Interval → ℕ
size_of i = 2 ^ i.log_size

abbrev pub interval_words : ℕ
interval_words = 4

abbrev pub interval_at : List ℕ → ℕ → Interval
interval_at is v =
    interval_in (get_or is (v * interval_words) 0) (get_or is (v * interval_words + 1) 0) (get_or is (v * interval_words + 2) 0) (get_or is (v * interval_words + 3) 0)

abbrev pub interval_count : List ℕ → ℕ
interval_count is = length is / interval_words

-- Mention: instruction 15, spare 14, use 1, mod 1, def 1. (Safepoint: an instruction number, the word itself.)
abbrev pub mention_in : ℕ → Mention
mention_in w = record { instruction = bits 17 15 w; spare = bits 3 14 w; uses = flag 2 w; mods = flag 1 w; defs = flag 0 w }

abbrev pub mention_word : Mention → ℕ
mention_word m = join 3 (join 14 m.instruction m.spare) (join 1 (join 1 (bit m.uses) (bit m.mods)) (bit m.defs))

pub record MentionFits (m : Mention) : Type 0 where
  pub instruction : m.instruction < 2 ^ 15
  pub spare : m.spare < 2 ^ 14

-- Result record, 2 words: kind 2 (1 register, 2 slot), interval 12, spare 2, register or slot 16; first point 16, last point 16.
abbrev pub record_in : ℕ → ℕ → Record
record_in w0 w1 = record { kind = bits 30 2 w0; interval = bits 18 12 w0; spare = bits 16 2 w0; number = bits 0 16 w0; first = bits 16 16 w1; last = bits 0 16 w1 }

abbrev pub record_row : Record → List ℕ
record_row r = join 16 (join 2 (join 12 r.kind r.interval) r.spare) r.number ∷ join 16 r.first r.last ∷ []

pub record RecordFits (r : Record) : Type 0 where
  pub kind : r.kind < 4
  pub interval : r.interval < 4096
  pub spare : r.spare < 4

abbrev pub record_words : ℕ
record_words = 2

abbrev pub record_at : List ℕ → ℕ → Record
record_at ws k = record_in (get_or ws (k * record_words) 0) (get_or ws (k * record_words + 1) 0)

-- the entries of a range
abbrev pub part : Range → List ℕ → List ℕ
part r l = take r.count (drop r.index l)
