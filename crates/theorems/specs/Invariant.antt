-- What holds of every state of a run on accepted tables, each fact a named field; and what a split and a split-and-spill need and give. Facts for proofs: document 01 says nothing of them.
use Rattle.std.specs.Prelude.{ℕ, suc, ◌+◌, ◌*◌, ◌%◌, ◌≤◌, ◌<◌, ◌≡◌, ◌≢◌, ◌⊎◌, true, length, get_or, Option, None, Some}
use mathlib.Core.List.{List, [], ◌∷◌, Memᴰ}
use Rattle.words.specs.Choose.{choose}
use Rattle.words.specs.Points.{use_point, def_point}
use Rattle.words.specs.Packed.{size_of, class_at, register_at, interval_count}
use Rattle.words.specs.declared.Class.{Class}
use Rattle.words.specs.declared.Range.{Range}
use Rattle.rules.specs.declared.Piece.{Piece}
use Rattle.rules.specs.declared.Place.{Place}
use Rattle.rules.specs.declared.Place.TheVariants.{Nowhere, Register, Slot}
use Rattle.rules.specs.Tables.{Tables}
use Rattle.rules.specs.Accepted.{InRange, mention, fragment, safepoint, interval}
use Rattle.rules.specs.Uses.{at_use, at_def}
use Rattle.rules.specs.State.{Given, State, Outcome, goes, stops, no_piece, record_of_key}

-- an outcome that goes on, goes on with P
abbrev pub Good : (State → Type 0) → Outcome → Type 0
Good P (goes s) = P s
Good P (stops a) = Unit

-- no record is left out
abbrev pub NoOne : ℕ → Type 0
NoOne m = ⊥

-- in ascending order from lo on, none twice
abbrev pub Asc : ℕ → List ℕ → Type 0
Asc lo [] = Unit
Asc lo (x ∷ xs) = (lo ≤ x) × Asc (suc x) xs

-- entries lo..hi of a table's a..b are those that lie in the extent s..e; the points of entry i lie in f i..l i
pub record Run (f l : ℕ → ℕ) (a b s e lo hi : ℕ) : Type 0 where
  pub low : a ≤ lo
  pub mid : lo ≤ hi
  pub high : hi ≤ b
  pub before : (i : ℕ) → a ≤ i → i < lo → l i < s
  pub starts : (i : ℕ) → lo ≤ i → i < hi → s ≤ f i
  pub ends : (i : ℕ) → lo ≤ i → i < hi → l i ≤ e
  pub after : (i : ℕ) → hi ≤ i → i < b → e < f i

-- record k's piece
abbrev pub at : List Piece → ℕ → Piece
at ps k = get_or ps k no_piece

-- point x is in the piece
abbrev pub In : ℕ → Piece → Type 0
In x q = (q.start ≤ x) × (x ≤ q.end)

-- how many virtual registers have a slot
unfoldable pub spilled_homes : List (Option ℕ) → ℕ
spilled_homes [] = 0
spilled_homes (None ∷ hs) = spilled_homes hs
spilled_homes (Some t ∷ hs) = suc (spilled_homes hs)

-- A2: the records of an interval are disjoint, and cover it
abbrev pub Apart : ℕ → Piece → ℕ → Piece → Type 0
Apart j a k b = (x : ℕ) → a.interval ≡ b.interval → In x a → In x b → j ≡ k

abbrev pub Covers : List Piece → ℕ → ℕ → Type 0
Covers ps v x = (k : ℕ) × (k < length ps) × ((at ps k).interval ≡ v) × ((at ps k).start ≤ x) × (x ≤ (at ps k).end)

-- C3: two records of one register that share a point are one
abbrev pub Clash : ℕ → Piece → ℕ → Piece → Type 0
Clash j a k b = (r x : ℕ) → a.place ≡ Register r → b.place ≡ Register r → In x a → In x b → j ≡ k

-- B1: a key of the queue is that of a record without a place
pub record Queued (ps : List Piece) (x : ℕ) : Type 0 where
  pub here : record_of_key x < length ps
  pub free : (at ps (record_of_key x)).place ≡ Nowhere
  pub key : x ≡ (at ps (record_of_key x)).start * 16384 + record_of_key x

-- D2: a slot is given only to what is spilled
abbrev pub IsSpilled : List Piece → ℕ → ℕ → Type 0
IsSpilled ps v t = (k : ℕ) × (k < length ps) × ((at ps k).interval ≡ v) × ((at ps k).place ≡ Slot t)

module _ (T : Tables) where
  -- the first and the last point of mention j, and the Use point of safepoint j
  unfoldable pub first_point : ℕ → ℕ
  first_point j = choose (at_use (mention T j)) (use_point (mention T j).instruction) (def_point (mention T j).instruction)

  unfoldable pub last_point : ℕ → ℕ
  last_point j = choose (at_def (mention T j)) (def_point (mention T j).instruction) (use_point (mention T j).instruction)

  abbrev pub use_at : ℕ → ℕ
  use_at j = use_point (safepoint T j)

  -- A1, A3, A4, and that a piece does not leave its interval: over a piece's fields, so that a change of place leaves it as it stands
  pub record ShapeOf (v s e : ℕ) (m p : Range) : Type 0 where
    pub named : v < interval_count T.intervals
    pub begins : (interval T v).start ≤ s
    pub fits : s ≤ e
    pub stops : e ≤ (interval T v).end
    pub ments : Run first_point last_point (interval T v).mentions.index ((interval T v).mentions.index + (interval T v).mentions.count) s e m.index (m.index + m.count)
    pub safes : Run use_at use_at (interval T v).safepoints.index ((interval T v).safepoints.index + (interval T v).safepoints.count) s e p.index (p.index + p.count)

  abbrev pub Shape : Piece → Type 0
  Shape q = ShapeOf q.interval q.start q.end q.mentions q.safepoints

  -- C1: r is of the class of interval v, and not its scratch
  abbrev pub class_of : ℕ → Class
  class_of v = class_at T.classes (interval T v).class

  pub record Usable (v r : ℕ) : Type 0 where
    pub from : (class_of v).first ≤ r
    pub below : r < (class_of v).first + (class_of v).count
    pub not_scratch : r ≢ (class_of v).scratch

  -- C2: no fragment of r meets s..e
  abbrev pub Unfixed : ℕ → ℕ → ℕ → Type 0
  Unfixed r s e = (f : ℕ) → InRange (register_at T.registers r) f → (x : ℕ) → s ≤ x → x ≤ e → (fragment T f).first ≤ x → x ≤ (fragment T f).last → ⊥

  -- E1: Def of the first safepoint of a reference piece is a mention point of it
  abbrev pub SafeOf : ℕ → Range → Range → Type 0
  SafeOf v m p = (interval T v).reference ≡ true → 0 < p.count → (j : ℕ) × InRange m j × (last_point j ≡ def_point (safepoint T p.index))

  -- what holds of record m, in register r, when l was the last start popped and `active` are the active records
  pub record InRegOf (l : ℕ) (active : List ℕ) (k v s e : ℕ) (m p : Range) (r : ℕ) : Type 0 where
    pub usable : Usable v r  -- C1
    pub begun : s ≤ l  -- B2
    pub tracked : l ≤ e → Memᴰ k active  -- B3
    pub unfixed : Unfixed r s e  -- C2
    pub safe : SafeOf v m p  -- E1

  -- what holds of record k by its place: B1; B2, B3, C1, C2, E1; D1, D2
  abbrev pub Held : ℕ → List ℕ → List ℕ → List (Option ℕ) → ℕ → Piece → Place → Type 0
  Held l queue active homes k q Nowhere = (l ≤ q.start) × Memᴰ (q.start * 16384 + k) queue
  Held l queue active homes k q (Register r) = InRegOf l active k q.interval q.start q.end q.mentions q.safepoints r
  Held l queue active homes k q (Slot t) = (q.mentions.count ≡ 0) × (get_or homes q.interval None ≡ Some t)

  pub record Parts (ps : List Piece) : Type 0 where
    pub apart : (j : ℕ) → j < length ps → (k : ℕ) → k < length ps → Apart j (at ps j) k (at ps k)
    pub cover : (v x : ℕ) → v < interval_count T.intervals → (interval T v).start ≤ x → x ≤ (interval T v).end → Covers ps v x

  -- after every single change: A1 to A4
  pub record Core (cap : ℕ) (ps : List Piece) : Type 0 where
    pub room : length ps ≤ cap
    pub all : interval_count T.intervals ≤ length ps
    pub firsts : (k : ℕ) → k < interval_count T.intervals → ((at ps k).interval ≡ k) × ((at ps k).start ≡ (interval T k).start)
    pub shape : (k : ℕ) → k < length ps → Shape (at ps k)
    pub parts : Parts ps

  -- D3: the slots
  pub record Slots (homes : List (Option ℕ)) (total : ℕ) : Type 0 where
    pub long : length homes ≡ interval_count T.intervals
    pub multiple : (v t : ℕ) → get_or homes v None ≡ Some t → t % size_of (interval T v) ≡ 0
    pub under : (v t : ℕ) → get_or homes v None ≡ Some t → t + size_of (interval T v) ≤ total
    pub apart : (u v x y : ℕ) → u ≢ v → get_or homes u None ≡ Some x → get_or homes v None ≡ Some y → (x + size_of (interval T u) ≤ y) ⊎ (y + size_of (interval T v) ≤ x)
    pub top : (total ≡ 0) ⊎ ((v : ℕ) × (t : ℕ) × (get_or homes v None ≡ Some t) × (total ≡ t + size_of (interval T v)))
    pub few : total ≤ 8 * spilled_homes homes

-- the invariant, of every record but those of X: l is the last start popped
pub record Inv (g : Given) (l : ℕ) (X : ℕ → Type 0) (s : State) : Type 0 where
  pub core : Core g.tables g.capacity s.pieces
  pub held : (k : ℕ) → k < length s.pieces → (X k → ⊥) → Held g.tables l s.queue s.active s.homes k (at s.pieces k) (at s.pieces k).place
  pub alone : (j : ℕ) → j < length s.pieces → (X j → ⊥) → (k : ℕ) → k < length s.pieces → (X k → ⊥) → Clash j (at s.pieces j) k (at s.pieces k)
  pub ordered : Asc 0 s.queue
  pub queued : (x : ℕ) → Memᴰ x s.queue → Queued s.pieces x
  pub waiting : (x : ℕ) → Memᴰ x s.queue → X (record_of_key x) → ⊥
  pub slots : Slots g.tables s.homes s.total
  pub used : (v t : ℕ) → get_or s.homes v None ≡ Some t → IsSpilled s.pieces v t

module _ (g : Given) where
  -- what a split at p needs: it is proper, and tears no mention
  pub record Cut (q : Piece) (p : ℕ) : Type 0 where
    pub above : q.start < p
    pub below : p ≤ q.end
    pub whole : (i : ℕ) → InRange q.mentions i → first_point g.tables i < p → last_point g.tables i < p

  -- p is no mention point of q
  abbrev pub Clear : Piece → ℕ → Type 0
  Clear q p = (i : ℕ) → InRange q.mentions i → (first_point g.tables i ≢ p) × (last_point g.tables i ≢ p)

  -- what a split-and-spill of record c at p leaves: c is spilled, or ends below p and keeps its place, and this where it has a mention up to p
  pub record SpilledAt (l : ℕ) (X : ℕ → Type 0) (s : State) (c p : ℕ) (t : State) : Type 0 where
    pub inv : Inv g l X t
    pub grows : length s.pieces ≤ length t.pieces
    pub others : (m : ℕ) → m < length s.pieces → m ≢ c → at t.pieces m ≡ at s.pieces m
    pub same_interval : (at t.pieces c).interval ≡ (at s.pieces c).interval
    pub same_start : (at t.pieces c).start ≡ (at s.pieces c).start
    pub way : ((z : ℕ) × ((at t.pieces c).place ≡ Slot z)) ⊎ (((at t.pieces c).place ≡ (at s.pieces c).place) × ((at t.pieces c).end < p))
    pub stays : (i : ℕ) → InRange (at s.pieces c).mentions i → first_point g.tables i ≤ p → ((at t.pieces c).place ≡ (at s.pieces c).place) × ((at t.pieces c).end < p)
    pub fresh : (m : ℕ) → length s.pieces ≤ m → m < length t.pieces → ((z : ℕ) × ((at t.pieces m).place ≡ Slot z)) ⊎ ((at t.pieces m).place ≡ Nowhere)
    pub active : t.active ≡ s.active
