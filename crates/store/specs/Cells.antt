-- What the work area's words hold, as four lists (a fact for contracts: document 01 leaves the layout open). Nothing outside this crate speaks of words.
-- Of 8 words per record of capacity: pieces, rows of 4 words, then one word each for the heap, the homes and the active records; the rest is free.
use Rattle.std.specs.Prelude.{ℕ, ◌+◌, ◌-◌, ◌*◌, ◌/◌, ◌%◌, ◌≤◌, ◌<◌, ◌≡◌, List, ◌∷◌, length, get_or, take, eqb, Option, None, Some}
use Rattle.words.specs.Choose.{choose}
use Rattle.words.specs.Rows.{tab}
use Rattle.words.specs.Packed.{record_in, range_in}
use Rattle.words.specs.declared.Record.{Record}
use Rattle.rules.specs.declared.Piece.{Piece}
use Rattle.rules.specs.declared.Place.{Place}
use Rattle.rules.specs.declared.Place.TheVariants.{Nowhere, Register, Slot}
use Rattle.rules.specs.State.{no_piece, insert}
use Rattle.rules.specs.Call.{record_for}
use Rattle.queue.specs.Heap.{Ord, sort}

-- kind 2 (1 register, 2 slot), and its number; any other kind is nowhere
unfoldable pub place_of : ℕ → ℕ → Place
place_of kind number = choose (eqb kind 1) (Register number) (choose (eqb kind 2) (Slot number) Nowhere)

-- a piece: the two words of its result record, then its mentions and its safepoints
unfoldable pub piece_in : ℕ → ℕ → ℕ → ℕ → Piece
piece_in w0 w1 w2 w3 =
    let r : Record = record_in w0 w1 in
    record { interval = r.interval; place = place_of r.kind r.number; start = r.first; end = r.last; mentions = range_in w2; safepoints = range_in w3 }

-- the record of a piece, whose fields have room in two words
pub record Packable (q : Piece) (r : Record) : Type 0 where
  pub is : r ≡ record_for q
  pub kind : r.kind < 4
  pub interval : r.interval < 4096
  pub spare : r.spare < 4

-- a piece that was read from four words: its interval has 12 bits
pub record Unpacked (w0 w1 w2 w3 : ℕ) (r : Piece) : Type 0 where
  pub is : r ≡ piece_in w0 w1 w2 w3
  pub small : r.interval < 4096

-- a home: 0 is unspilled, 65,536 + t is slot t
unfoldable pub home_in : ℕ → Option ℕ
home_in w = choose (eqb (w / 65536) 0) None (Some (w % 65536))

unfoldable pub home_word : Option ℕ → ℕ
home_word None = 0
home_word (Some t) = 65536 + t

-- the word of a home, which has 17 bits
pub record HomePacked (h : Option ℕ) (r : ℕ) : Type 0 where
  pub is : r ≡ home_word h
  pub small : r < 131072

-- the four lists of a work area, each as long as the capacity
pub record Cells : Type 0 where
  pub pieces : List Piece
  pub heap : List ℕ
  pub homes : List (Option ℕ)
  pub active : List ℕ

unfoldable pub cells : ℕ → List ℕ → Cells
cells cap ws =
    record {
      pieces = tab cap (λ k. piece_in (get_or ws (k * 4) 0) (get_or ws (k * 4 + 1) 0) (get_or ws (k * 4 + 2) 0) (get_or ws (k * 4 + 3) 0));
      heap = tab cap (λ k. get_or ws (cap * 4 + k) 0);
      homes = tab cap (λ k. home_in (get_or ws (cap * 5 + k) 0));
      active = tab cap (λ k. get_or ws (cap * 6 + k) 0);
    }

-- cells with one list changed
abbrev pub with_pieces : List Piece → Cells → Cells
with_pieces ps c = record { pieces = ps; heap = c.heap; homes = c.homes; active = c.active }

abbrev pub with_heap : List ℕ → Cells → Cells
with_heap h c = record { pieces = c.pieces; heap = h; homes = c.homes; active = c.active }

abbrev pub with_homes : List (Option ℕ) → Cells → Cells
with_homes hs c = record { pieces = c.pieces; heap = c.heap; homes = hs; active = c.active }

abbrev pub with_active : List ℕ → Cells → Cells
with_active js c = record { pieces = c.pieces; heap = c.heap; homes = c.homes; active = js }

-- entry k of an area with room. Work area: at least 8 words per record of capacity plus 256; the capacity is at most 16,384.
pub record At (cap : ℕ) (ws : List ℕ) (k : ℕ) : Type 0 where
  pub most : cap ≤ 16384
  pub long : cap * 8 + 256 ≤ length ws
  pub inside : k < cap

-- what a primitive leaves: the cells are c, and the length is kept
pub record Becomes (cap : ℕ) (ws ws' : List ℕ) (c : Cells) : Type 0 where
  pub is : cells cap ws' ≡ c
  pub room : length ws' ≡ length ws

-- a piece that was read: its interval has 12 bits
pub record PieceAt (cap : ℕ) (ws : List ℕ) (k : ℕ) (r : Piece) : Type 0 where
  pub is : r ≡ get_or (cells cap ws).pieces k no_piece
  pub small : r.interval < 4096

-- a heap of n keys in the area, with room for one more; and one that has a key
pub record HeapOpen (cap : ℕ) (ws : List ℕ) (n : ℕ) : Type 0 where
  pub most : cap ≤ 16384
  pub long : cap * 8 + 256 ≤ length ws
  pub inside : n < cap
  pub ordered : Ord (cells cap ws).heap n

pub record HeapFilled (cap : ℕ) (ws : List ℕ) (n : ℕ) : Type 0 where
  pub most : cap ≤ 16384
  pub long : cap * 8 + 256 ≤ length ws
  pub some : 0 < n
  pub inside : n ≤ cap
  pub ordered : Ord (cells cap ws).heap n

-- the key k was pushed on a heap of n, or popped off it; all else is as it was
pub record KeyPushed (cap : ℕ) (ws ws' : List ℕ) (n k : ℕ) : Type 0 where
  pub is : cells cap ws' ≡ with_heap (cells cap ws').heap (cells cap ws)
  pub ordered : Ord (cells cap ws').heap (n + 1)
  pub holds : sort (take (n + 1) (cells cap ws').heap) ≡ insert k (sort (take n (cells cap ws).heap))
  pub room : length ws' ≡ length ws

pub record KeyPopped (cap : ℕ) (ws ws' : List ℕ) (n k : ℕ) : Type 0 where
  pub is : cells cap ws' ≡ with_heap (cells cap ws').heap (cells cap ws)
  pub ordered : Ord (cells cap ws').heap (n - 1)
  pub least : sort (take n (cells cap ws).heap) ≡ k ∷ sort (take (n - 1) (cells cap ws').heap)
  pub room : length ws' ≡ length ws
