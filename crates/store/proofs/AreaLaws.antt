-- The loops that fill the work area and the result area: the invariant of each, how it starts, goes on and ends. The intervals' table is t.
-- Assumes nothing.
use Rattle.std.specs.Prelude.{None}
use Prim.Native.Nat.{ℕ, zero, suc, ◌+◌, ◌*◌, ◌≤◌, ◌<◌}
use mathlib.Core.Path.{◌≡◌, refl, sym, ap, ◌∙◌}
use mathlib.Core.List.{List, [], ◌∷◌, ◌++◌}
use native.Mathlib.Omega.{arith}
use native.Mathlib.Numerals.{add-one}
use lib.ListN.{length, get_or, set, take, drop, replicate, length-set, length-replicate}
use lib.Seq.{take-suc, take-suc-set, take_all, length-take-le}
use Rattle.words.specs.Rows.{tab}
use Rattle.words.specs.Packed.{interval_count, record_row, record_words}
use Rattle.words.proofs.Rows.{sets_after}
use Rattle.rules.specs.declared.Piece.{Piece}
use Rattle.rules.specs.State.{State, no_piece, piece, enqueue}
use Rattle.rules.specs.Run.{whole_interval, unqueued, enqueue_all, begin}
use Rattle.rules.specs.Call.{record_for, pack_records, write_records}
use Rattle.rules.proofs.Leaves.{length_pack}
use Rattle.queue.specs.Heap.{sort}
use Rattle.store.specs.Cells as cells
use Rattle.store.specs.Cells.{Cells, cells, Becomes, Packable}
use Rattle.store.specs.StateOf.{state_of, Each, none, more, Sane, Ready, After, Loads, Whole, Filled, Loaded}
use Rattle.store.specs.declared.Counts.{Counts}
use Rattle.store.proofs.CellLaws.{length_pieces, length_homes}
use Rattle.store.proofs.StateLaws.{records_are}

-- ---- emit: ps are the pieces
pack_snoc : (ps : List Piece) (p : Piece) → pack_records (ps ++ (p ∷ [])) ≡ pack_records ps ++ record_row (record_for p)
unfolding pack_records
pack_snoc [] p = refl
pack_snoc (q ∷ ps) p = ap (λ (l : List ℕ). record_row (record_for q) ++ l) (pack_snoc ps p)

pub record Emitted (ps : List Piece) (d o : List ℕ) (n k : ℕ) : Type 0 where
  pub is : o ≡ pack_records (take k ps) ++ drop (k * record_words) d
  pub upto : k ≤ n
  pub long : length o ≡ length d

pub emitted_starts : (ps : List Piece) (d : List ℕ) (n : ℕ) → Emitted ps d d n 0
unfolding pack_records
emitted_starts ps d n = record { is = refl; upto = omega arith; long = refl }

emitted_step : (ps : List Piece) (d o : List ℕ) (n k : ℕ) (row : List ℕ) → Emitted ps d o n k → k < n → n ≤ length ps → n * record_words ≤ length d
    → row ≡ record_row (record_for (get_or ps k no_piece))
    → Emitted ps d (set (set o (k * 2) (get_or row 0 0)) (k * 2 + 1) (get_or row 1 0)) n (k + 1)
emitted_step ps d o n k row g h l r e =
    let len : length (pack_records (take k ps)) ≡ k * record_words = length_pack (take k ps) ∙ ap (λ (m : ℕ). m * record_words) (length-take-le k ps (omega arith)) in
    let more : take (k + 1) ps ≡ take k ps ++ (get_or ps k no_piece ∷ []) = simp (add-one, take-suc ps k no_piece (omega arith)) in
    let end : k * record_words + record_words ≡ (k + 1) * record_words = omega arith in
    record {
      is =
          ap (λ (x : List ℕ). set (set x (k * record_words) (get_or row 0 0)) (k * record_words + 1) (get_or row 1 0)) g.is
          ∙ (simp (e, add-one))
          ∙ sets_after (pack_records (take k ps)) d (record_row (record_for (get_or ps k no_piece))) (k * record_words) len (omega arith)
          ∙ ap (λ (m : ℕ). pack_records (take k ps) ++ record_row (record_for (get_or ps k no_piece)) ++ drop m d) end
          ∙ ap (λ (x : List ℕ). x ++ drop ((k + 1) * record_words) d) (sym (ap pack_records more ∙ pack_snoc (take k ps) (get_or ps k no_piece)));
      upto = omega arith;
      long = simp length-set g.long;
    }

module _ (cap : ℕ) (ws : List ℕ) (c : Counts) (d o : List ℕ) (k : ℕ) where
  -- one record more
  pub emitted_more : (row : List ℕ) → Ready cap ws c → Emitted (state_of cap ws c).pieces d o c.records k → k < c.records → c.records * record_words ≤ length d
      → row ≡ record_row (record_for (piece (state_of cap ws c) k))
      → Emitted (state_of cap ws c).pieces d (set (set o (k * 2) (get_or row 0 0)) (k * 2 + 1) (get_or row 1 0)) c.records (k + 1)
  emitted_more row r g h l e = emitted_step (state_of cap ws c).pieces d o c.records k row g h (omega (arith, records_are cap ws c r)) l e

  pub emitted_ends : Ready cap ws c → Emitted (state_of cap ws c).pieces d o c.records k → c.records ≤ k → o ≡ write_records (state_of cap ws c).pieces d
  emitted_ends r g h =
      let n = records_are cap ws c r in
      let e : k ≡ length (state_of cap ws c).pieces = omega (arith, g.upto, n) in
      g.is ∙ ap (λ (j : ℕ). pack_records (take j (state_of cap ws c).pieces) ++ drop (j * record_words) d) e
      ∙ ap (λ (ps : List Piece). pack_records ps ++ drop (length (state_of cap ws c).pieces * record_words) d) (take_all (length (state_of cap ws c).pieces) (state_of cap ws c).pieces (omega arith))

-- ---- fill
tab_snoc : {A : Type 0} (n : ℕ) (f : ℕ → A) → tab (suc n) f ≡ tab n f ++ (f n ∷ [])
tab_snoc zero f = refl
tab_snoc (suc n) f = ap (λ l. f 0 ∷ l) (tab_snoc n (λ k. f (suc k)))

replicate_snoc : {A : Type 0} (n : ℕ) (a : A) → replicate (suc n) a ≡ replicate n a ++ (a ∷ [])
replicate_snoc zero a = refl
replicate_snoc (suc n) a = ap (λ l. a ∷ l) (replicate_snoc n a)

pub record Filling (cap : ℕ) (t d ws : List ℕ) (k : ℕ) : Type 0 where
  pub filled : Filled cap t d ws k
  pub upto : k ≤ interval_count t
  pub long : length ws ≡ length d

pub filling_starts : (cap : ℕ) (t d : List ℕ) → Filling cap t d d 0
filling_starts cap t d = record { filled = record { pieces = refl; homes = refl; long = refl }; upto = omega arith; long = refl }

module _ (cap : ℕ) (t d ws ws₁ ws₂ : List ℕ) (k : ℕ) (q : Piece) where
  -- one interval more
  pub filling_more : Loads cap t d → Filling cap t d ws k → k < interval_count t → Whole t k q
      → Becomes cap ws ws₁ (cells.with_pieces (set (cells cap ws).pieces k q) (cells cap ws))
      → Becomes cap ws₁ ws₂ (cells.with_homes (set (cells cap ws₁).homes k None) (cells cap ws₁))
      → Filling cap t d ws₂ (k + 1)
  filling_more l f h w b e =
      let in_pieces : k < length (cells cap ws).pieces = omega (arith, l.inside, length_pieces cap ws) in
      let in-homes : k < length (cells cap ws).homes = omega (arith, l.inside, length_homes cap ws) in
      let ps : (cells cap ws₂).pieces ≡ set (cells cap ws).pieces k q = ap (λ (x : Cells). x.pieces) e.is ∙ ap (λ (x : Cells). x.pieces) b.is in
      let hs : (cells cap ws₂).homes ≡ set (cells cap ws).homes k None = ap (λ (x : Cells). x.homes) e.is ∙ ap (λ (x : Cells). set x.homes k None) b.is in
      let long : length ws₂ ≡ length d = e.room ∙ b.room ∙ f.long in
      record {
        filled =
            record {
              pieces = rw (add-one k) (ap (take (suc k)) ps ∙ take-suc-set (cells cap ws).pieces k q in_pieces ∙ rw (f.filled.pieces, w.is) (sym (tab_snoc k (whole_interval t))));
              homes = rw (add-one k) (ap (take (suc k)) hs ∙ take-suc-set (cells cap ws).homes k None in-homes ∙ rw f.filled.homes (sym (replicate_snoc k None)));
              long = long;
            };
        upto = omega arith;
        long = long;
      }

pub filling_ends : (cap : ℕ) (t d ws : List ℕ) (k : ℕ) → Filling cap t d ws k → interval_count t ≤ k → Filled cap t d ws (interval_count t)
filling_ends cap t d ws k f h = let e : k ≡ interval_count t = omega (arith, f.upto) in rw e at f.filled

-- ---- load
each_tab : {A : Type 0} (P : A → Type 0) (n : ℕ) (f : ℕ → A) → ((k : ℕ) → k < n → P (f k)) → Each P (tab n f)
each_tab P zero f h = none
each_tab P (suc n) f h = more (h 0 (omega arith)) (each_tab P n (λ k. f (suc k)) (λ k l. h (suc k) (omega arith)))

-- nothing queued yet
abbrev pub fresh : ℕ → Counts
fresh n = record { intervals = n; records = n; queued = 0; active = 0; total = 0 }

unqueued_sane : (t : List ℕ) → Sane (interval_count t) (unqueued t)
unqueued_sane t =
    record {
      owners = each_tab _ (interval_count t) (whole_interval t) (λ k l. l);
      named = none;
      actives = none;
      homes = length-replicate (interval_count t) None;
      slots = omega arith;
    }

-- the first k of n records are queued
pub record Queueing (cap : ℕ) (t d ws : List ℕ) (c : Counts) (n k : ℕ) : Type 0 where
  pub is : state_of cap ws c ≡ enqueue_all k (unqueued t)
  pub ready : Ready cap ws c
  pub records : c.records ≡ n
  pub queued : c.queued ≡ k
  pub active : c.active ≡ 0
  pub intervals : c.intervals ≡ n
  pub upto : k ≤ n
  pub long : length ws ≡ length d

module _ (cap : ℕ) (t d : List ℕ) where
  -- nothing is queued after `fill`
  pub queueing_starts : (ws : List ℕ) → Loads cap t d → Filled cap t d ws (interval_count t) → Queueing cap t ws ws (fresh (interval_count t)) (interval_count t) 0
  queueing_starts ws l f =
      record {
        is = is;
        ready =
            record {
              most = l.most;
              long = omega (arith, l.long, f.long);
              records = l.inside;
              held = omega arith;
              intervals = omega arith;
              few = l.few;
              ordered = λ i a b. absurd (omega arith);
              sane = rw plain (unqueued_sane t);
            };
        records = refl;
        queued = refl;
        active = refl;
        intervals = refl;
        upto = omega arith;
        long = refl;
      }
    where
      plain : state_of cap ws (fresh (interval_count t)) ≡ unqueued t
      plain = unfold state_of sort in rw (f.pieces, f.homes)

      is : state_of cap ws (fresh (interval_count t)) ≡ enqueue_all 0 (unqueued t)
      is = unfold enqueue_all in plain

  -- one record more is queued
  pub queueing_more : (ws ws' : List ℕ) (c r : Counts) (n k : ℕ) → Queueing cap t d ws c n k → k < n
      → After cap ws ws' c r (enqueue (state_of cap ws c) k) c.records (c.queued + 1) c.active → Queueing cap t d ws' r n (k + 1)
  queueing_more ws ws' c r n k g h a =
      record {
        is = a.is ∙ ap (λ (s : State). enqueue s k) g.is ∙ next;
        ready = a.ready;
        records = a.records ∙ g.records;
        queued = omega (arith, a.queued, g.queued);
        active = a.active ∙ g.active;
        intervals = a.intervals ∙ g.intervals;
        upto = omega arith;
        long = a.long ∙ g.long;
      }
    where
      next : enqueue (enqueue_all k (unqueued t)) k ≡ enqueue_all (k + 1) (unqueued t)
      next = unfold enqueue_all in rw (add-one k)

  -- all are queued: the state that a run begins with
  pub queueing_ends : (d₀ ws : List ℕ) (c : Counts) (k : ℕ) → Filled cap t d₀ d (interval_count t) → Queueing cap t d ws c (interval_count t) k → interval_count t ≤ k → Loaded cap t d₀ ws c (interval_count t)
  queueing_ends d₀ ws c k f g h =
      let e : k ≡ interval_count t = omega (arith, g.upto) in
      record {
        is = g.is ∙ ap (λ (j : ℕ). enqueue_all j (unqueued t)) e ∙ whole;
        ready = g.ready;
        records = g.records;
        queued = g.queued ∙ e;
        active = g.active;
        intervals = g.intervals;
        long = g.long ∙ f.long;
      }
    where
      whole : enqueue_all (interval_count t) (unqueued t) ≡ begin t
      whole = unfold begin in refl
