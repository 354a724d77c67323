-- Facts for contracts: the fields of record k and of interval v, by name and shut, so that arithmetic takes each for a number and not for what it is in a word.
use Rattle.std.specs.Prelude.{ℕ, ◌+◌, ◌^◌, ◌<◌, List, ◌≡◌, Bool}
use Rattle.words.specs.declared.Interval.{Interval}
use Rattle.words.specs.declared.Record.{Record}
use Rattle.words.specs.Packed.{record_at, interval_at, size_of}

-- of record k
unfoldable pub kind_of : List ℕ → ℕ → ℕ
kind_of ws k = (record_at ws k).kind

unfoldable pub interval_of : List ℕ → ℕ → ℕ
interval_of ws k = (record_at ws k).interval

unfoldable pub spare_of : List ℕ → ℕ → ℕ
spare_of ws k = (record_at ws k).spare

unfoldable pub number_of : List ℕ → ℕ → ℕ
number_of ws k = (record_at ws k).number

unfoldable pub first_of : List ℕ → ℕ → ℕ
first_of ws k = (record_at ws k).first

unfoldable pub last_of : List ℕ → ℕ → ℕ
last_of ws k = (record_at ws k).last

-- of interval v
unfoldable pub class_of : List ℕ → ℕ → ℕ
class_of is v = (interval_at is v).class

unfoldable pub reference_of : List ℕ → ℕ → Bool
reference_of is v = (interval_at is v).reference

unfoldable pub size_at : List ℕ → ℕ → ℕ
size_at is v = size_of (interval_at is v)

unfoldable pub start_of : List ℕ → ℕ → ℕ
start_of is v = (interval_at is v).start

unfoldable pub end_of : List ℕ → ℕ → ℕ
end_of is v = (interval_at is v).end

-- where its mentions begin and end in their table, and its safepoints
unfoldable pub mentions_from : List ℕ → ℕ → ℕ
mentions_from is v = (interval_at is v).mentions.index

unfoldable pub mentions_to : List ℕ → ℕ → ℕ
mentions_to is v = (interval_at is v).mentions.index + (interval_at is v).mentions.count

unfoldable pub safepoints_from : List ℕ → ℕ → ℕ
safepoints_from is v = (interval_at is v).safepoints.index

unfoldable pub safepoints_to : List ℕ → ℕ → ℕ
safepoints_to is v = (interval_at is v).safepoints.index + (interval_at is v).safepoints.count

-- r is record k
pub record Shown (ws : List ℕ) (k : ℕ) (r : Record) : Type 0 where
  pub kind : r.kind ≡ kind_of ws k
  pub interval : r.interval ≡ interval_of ws k
  pub spare : r.spare ≡ spare_of ws k
  pub number : r.number ≡ number_of ws k
  pub first : r.first ≡ first_of ws k
  pub last : r.last ≡ last_of ws k

-- i is interval v
pub record Given (is : List ℕ) (v : ℕ) (i : Interval) : Type 0 where
  pub class : i.class ≡ class_of is v
  pub reference : i.reference ≡ reference_of is v
  pub size : 2 ^ i.log_size ≡ size_at is v
  pub log : i.log_size < 4
  pub start : i.start ≡ start_of is v
  pub end : i.end ≡ end_of is v
  pub mentions : i.mentions.index ≡ mentions_from is v
  pub mentioned : i.mentions.index + i.mentions.count ≡ mentions_to is v
  pub safepoints : i.safepoints.index ≡ safepoints_from is v
  pub safe : i.safepoints.index + i.safepoints.count ≡ safepoints_to is v
