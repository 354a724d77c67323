-- The laws of the cells: what a store, and a heap that was lent and came back, do to the four lists.
-- Assumes nothing.
use Rattle.std.specs.Prelude.{Option, None}
use Prim.Native.Nat.{ℕ, zero, suc, ◌+◌, ◌-◌, ◌*◌, ◌/◌, ◌≤◌, ◌<◌}
use mathlib.Core.Path.{◌≡◌, refl, sym, ap, ◌∙◌}
use mathlib.Core.List.{List, ◌∷◌, ◌++◌, append-nil}
use native.Mathlib.Nat.{not-suc-le-zero, le_of_suc-le-suc, le_refl}
use native.Mathlib.Omega.{arith}
use lib.ListN.{length, get_or, set, take, drop, length-set, length-drop, length-append, get_or-append}
use lib.Seq.{get_or-set_same, get_or-set_other, get_or-take, get_or-drop, get_or-append-add, take_all, take-take, ext_get_or, drop-drop, drop-length, length-take-le, drop_at}
use borrow.Rule.Slice.PartMut.{mid_of, put_mid}
use Rattle.words.specs.Rows.{tab}
use Rattle.words.specs.Packed.{record_row, range_word}
use Rattle.words.specs.declared.Record.{Record}
use Rattle.words.proofs.Rows.{length_tab, get_d_tab}
use Rattle.rules.specs.declared.Piece.{Piece}
use Rattle.rules.specs.State.{no_piece, insert}
use Rattle.queue.specs.Heap.{Ord, sort, Open, Filled, Pushed, Popped}
use Rattle.store.proofs.WordLaws.{home_back, piece_back}
use Rattle.store.specs.Cells.{HomePacked, piece_in, Packable, Unpacked, PieceAt, home_in, Cells, cells, with_pieces, with_heap, with_homes, with_active, At, Becomes, HeapOpen, HeapFilled, KeyPushed, KeyPopped}

module _ {A : Type 0} where
  -- two tables of equal entries
  pub tab_same : (n : ℕ) (f g : ℕ → A) → ((k : ℕ) → k < n → f k ≡ g k) → tab n f ≡ tab n g
  tab_same zero f g h = refl
  tab_same (suc n) f g h =
      ap (λ (x : A). x ∷ tab n (λ k. f (suc k))) (h 0 (omega arith)) ∙ ap (λ (l : List A). g 0 ∷ l) (tab_same n (λ k. f (suc k)) (λ k. g (suc k)) (λ k l. h (suc k) (omega arith)))

  -- two tables that differ in entry k
  pub tab_set : (n k : ℕ) (f g : ℕ → A) (a : A) → k < n → f k ≡ a → ((i : ℕ) → i < n → (i ≡ k → ⊥) → f i ≡ g i) → tab n f ≡ set (tab n g) k a
  tab_set zero k f g a h e o = absurd (not-suc-le-zero h)
  tab_set (suc n) zero f g a h e o =
      ap (λ (x : A). x ∷ tab n (λ k. f (suc k))) e
      ∙ ap (λ (l : List A). a ∷ l) (tab_same n (λ k. f (suc k)) (λ k. g (suc k)) (λ k l. o (suc k) (omega arith) (λ z. omega arith)))
  tab_set (suc n) (suc k) f g a h e o =
      ap (λ (x : A). x ∷ tab n (λ k. f (suc k))) (o 0 (omega arith) (λ z. omega arith))
      ∙ ap (λ (l : List A). g 0 ∷ l) (tab_set n k (λ k. f (suc k)) (λ k. g (suc k)) a (le_of_suc-le-suc h) e (λ i l z. o (suc i) (omega arith) (λ y. z (omega arith))))

-- the four lists are as long as the capacity
module _ (cap : ℕ) (ws : List ℕ) where
  pub length_pieces : length (cells cap ws).pieces ≡ cap
  unfolding cells
  length_pieces = length_tab _ _

  pub length_heap : length (cells cap ws).heap ≡ cap
  unfolding cells
  length_heap = length_tab _ _

  pub length_homes : length (cells cap ws).homes ≡ cap
  unfolding cells
  length_homes = length_tab _ _

  pub length_active : length (cells cap ws).active ≡ cap
  unfolding cells
  length_active = length_tab _ _

-- reading an entry
module _ (cap : ℕ) (ws : List ℕ) (k : ℕ) (h : k < cap) where
  pub piece_is : piece_in (get_or ws (k * 4) 0) (get_or ws (k * 4 + 1) 0) (get_or ws (k * 4 + 2) 0) (get_or ws (k * 4 + 3) 0) ≡ get_or (cells cap ws).pieces k no_piece
  unfolding cells
  piece_is = sym (get_d_tab cap k _ no_piece h)

  pub home_is : home_in (get_or ws (cap * 5 + k) 0) ≡ get_or (cells cap ws).homes k None
  unfolding cells
  home_is = sym (get_d_tab cap k _ None h)

  pub active_is : get_or ws (cap * 6 + k) 0 ≡ get_or (cells cap ws).active k 0
  unfolding cells
  active_is = sym (get_d_tab cap k _ 0 h)

-- two areas with the same words from lo up to hi
abbrev pub Alike : List ℕ → List ℕ → ℕ → ℕ → Type 0
Alike ws ws' lo hi = (i : ℕ) → lo ≤ i → i < hi → get_or ws' i 0 ≡ get_or ws i 0

module _ (cap : ℕ) (ws ws' : List ℕ) where
  pub pieces_same : Alike ws ws' 0 (cap * 4) → (cells cap ws').pieces ≡ (cells cap ws).pieces
  unfolding cells
  pieces_same h =
      tab_same cap _ _ (λ k l. rw (h (k * 4) (omega arith) (omega arith), h (k * 4 + 1) (omega arith) (omega arith), h (k * 4 + 2) (omega arith) (omega arith), h (k * 4 + 3) (omega arith) (omega arith)))

  pub heap_same : Alike ws ws' (cap * 4) (cap * 5) → (cells cap ws').heap ≡ (cells cap ws).heap
  unfolding cells
  heap_same h = tab_same cap _ _ (λ k l. h (cap * 4 + k) (omega arith) (omega arith))

  pub homes_same : Alike ws ws' (cap * 5) (cap * 6) → (cells cap ws').homes ≡ (cells cap ws).homes
  unfolding cells
  homes_same h = tab_same cap _ _ (λ k l. ap home_in (h (cap * 5 + k) (omega arith) (omega arith)))

  pub active_same : Alike ws ws' (cap * 6) (cap * 7) → (cells cap ws').active ≡ (cells cap ws).active
  unfolding cells
  active_same h = tab_same cap _ _ (λ k l. h (cap * 6 + k) (omega arith) (omega arith))

-- cells are equal by their lists
cells_by : (c d : Cells) → c.pieces ≡ d.pieces → c.heap ≡ d.heap → c.homes ≡ d.homes → c.active ≡ d.active → c ≡ d
cells_by c d p h o a = λ i. record { pieces = p i; heap = h i; homes = o i; active = a i }

-- a word of the homes is stored
pub home_put : (cap : ℕ) (ws : List ℕ) (k v : ℕ) (h : Option ℕ) → At cap ws k → HomePacked h v
    → Becomes cap ws (set ws (cap * 5 + k) v) (with_homes (set (cells cap ws).homes k h) (cells cap ws))
unfolding cells
home_put cap ws k v h a p =
    let e : home_in v ≡ h = home_back h v p in
    let b : cap * 5 + k < length ws = omega (arith, a.long, a.inside) in
    let ws' : List ℕ = set ws (cap * 5 + k) v in
    let o : (i : ℕ) → (i ≡ cap * 5 + k → ⊥) → get_or ws' i 0 ≡ get_or ws i 0 = λ i n. get_or-set_other ws (cap * 5 + k) i v 0 n in
    record {
      is =
          cells_by _ _ (pieces_same cap ws ws' (λ i l g. o i (λ z. omega arith)))
          (heap_same cap ws ws' (λ i l g. o i (λ z. omega arith)))
          (tab_set cap k _ _ h a.inside (ap home_in (get_or-set_same ws (cap * 5 + k) v 0 b) ∙ e) (λ i l n. ap home_in (o (cap * 5 + i) (λ z. n (omega arith)))))
          (active_same cap ws ws' (λ i l g. o i (λ z. omega (arith, a.inside))));
      room = length-set ws (cap * 5 + k) v;
    }

-- a word of the active records is stored
pub active_put : (cap : ℕ) (ws : List ℕ) (k v : ℕ) → At cap ws k
    → Becomes cap ws (set ws (cap * 6 + k) v) (with_active (set (cells cap ws).active k v) (cells cap ws))
unfolding cells
active_put cap ws k v a =
    let b : cap * 6 + k < length ws = omega (arith, a.long, a.inside) in
    let ws' : List ℕ = set ws (cap * 6 + k) v in
    let o : (i : ℕ) → (i ≡ cap * 6 + k → ⊥) → get_or ws' i 0 ≡ get_or ws i 0 = λ i n. get_or-set_other ws (cap * 6 + k) i v 0 n in
    record {
      is =
          cells_by _ _ (pieces_same cap ws ws' (λ i l g. o i (λ z. omega arith)))
          (heap_same cap ws ws' (λ i l g. o i (λ z. omega arith)))
          (homes_same cap ws ws' (λ i l g. o i (λ z. omega arith)))
          (tab_set cap k _ _ v a.inside (get_or-set_same ws (cap * 6 + k) v 0 b) (λ i l n. o (cap * 6 + i) (λ z. n (omega arith))));
      room = length-set ws (cap * 6 + k) v;
    }

-- a piece's four words are stored
module _ (cap : ℕ) (ws : List ℕ) (k w0 w1 w2 w3 : ℕ) (q : Piece) where
  abbrev stored : List ℕ
  stored = set (set (set (set ws (k * 4) w0) (k * 4 + 1) w1) (k * 4 + 2) w2) (k * 4 + 3) w3

  -- a word that is none of the four
  stored_other : (i : ℕ) → (i ≡ k * 4 → ⊥) → (i ≡ k * 4 + 1 → ⊥) → (i ≡ k * 4 + 2 → ⊥) → (i ≡ k * 4 + 3 → ⊥) → get_or stored i 0 ≡ get_or ws i 0
  stored_other i a b c d =
      get_or-set_other (set (set (set ws (k * 4) w0) (k * 4 + 1) w1) (k * 4 + 2) w2) (k * 4 + 3) i w3 0 d
      ∙ get_or-set_other (set (set ws (k * 4) w0) (k * 4 + 1) w1) (k * 4 + 2) i w2 0 c
      ∙ get_or-set_other (set ws (k * 4) w0) (k * 4 + 1) i w1 0 b
      ∙ get_or-set_other ws (k * 4) i w0 0 a

  -- the four words
  stored_is : k * 4 + 3 < length ws → (get_or stored (k * 4) 0 ≡ w0) × (get_or stored (k * 4 + 1) 0 ≡ w1) × (get_or stored (k * 4 + 2) 0 ≡ w2) × (get_or stored (k * 4 + 3) 0 ≡ w3)
  stored_is l =
      let s0 : List ℕ = set ws (k * 4) w0 in
      let s1 : List ℕ = set s0 (k * 4 + 1) w1 in
      let s2 : List ℕ = set s1 (k * 4 + 2) w2 in (
        get_or-set_other s2 (k * 4 + 3) (k * 4) w3 0 (λ z. omega arith) ∙ get_or-set_other s1 (k * 4 + 2) (k * 4) w2 0 (λ z. omega arith) ∙ get_or-set_other s0 (k * 4 + 1) (k * 4) w1 0 (λ z. omega arith) ∙ get_or-set_same ws (k * 4) w0 0 (omega arith),
        get_or-set_other s2 (k * 4 + 3) (k * 4 + 1) w3 0 (λ z. omega arith) ∙ get_or-set_other s1 (k * 4 + 2) (k * 4 + 1) w2 0 (λ z. omega arith) ∙ get_or-set_same s0 (k * 4 + 1) w1 0 (simp length-set (omega arith)),
        get_or-set_other s2 (k * 4 + 3) (k * 4 + 2) w3 0 (λ z. omega arith) ∙ get_or-set_same s1 (k * 4 + 2) w2 0 (simp length-set (omega arith)),
        get_or-set_same s2 (k * 4 + 3) w3 0 (simp length-set l),
      )

  pub piece_put : At cap ws k → piece_in w0 w1 w2 w3 ≡ q → Becomes cap ws stored (with_pieces (set (cells cap ws).pieces k q) (cells cap ws))
  unfolding cells
  piece_put a e =
      let o = stored_other in
      let w = stored_is (omega (arith, a.long, a.inside)) in
      record {
        is =
            cells_by _ _
            (tab_set cap k _ _ q a.inside (rw (w.0, w.1, w.2, w.3) e)
            (λ i l n. rw (
              o (i * 4) (λ z. n (omega arith)) (λ z. omega arith) (λ z. omega arith) (λ z. omega arith),
              o (i * 4 + 1) (λ z. omega arith) (λ z. n (omega arith)) (λ z. omega arith) (λ z. omega arith),
              o (i * 4 + 2) (λ z. omega arith) (λ z. omega arith) (λ z. n (omega arith)) (λ z. omega arith),
              o (i * 4 + 3) (λ z. omega arith) (λ z. omega arith) (λ z. omega arith) (λ z. n (omega arith)),
            )))
            (heap_same cap ws stored (λ i l g. past i (omega (arith, a.inside))))
            (homes_same cap ws stored (λ i l g. past i (omega (arith, a.inside))))
            (active_same cap ws stored (λ i l g. past i (omega (arith, a.inside))));
        room = simp length-set;
      }
    where
      past : (i : ℕ) → k * 4 + 4 ≤ i → get_or stored i 0 ≡ get_or ws i 0
      past i h = stored_other i (λ z. omega arith) (λ z. omega arith) (λ z. omega arith) (λ z. omega arith)

-- the heap is a run of words
pub heap_is : (cap : ℕ) (ws : List ℕ) → cap * 5 ≤ length ws → (cells cap ws).heap ≡ take cap (drop (cap * 4) ws)
unfolding cells
heap_is cap ws h =
    ext_get_or 0 _ _ (length_tab cap _ ∙ sym (length-take-le cap (drop (cap * 4) ws) (simp length-drop (omega arith))))
    (λ i l. let g : i < cap = rw (length_tab cap (λ k. get_or ws (cap * 4 + k) 0)) at l in get_d_tab cap i _ 0 g ∙ sym (get_or-take cap (drop (cap * 4) ws) i 0 g ∙ get_or-drop (cap * 4) ws i 0))

-- The words from the heap on were lent, and ys came back, the same from its word m on.
module _ (cap : ℕ) (ws ys : List ℕ) (m : ℕ) (l : cap * 8 ≤ length ws) where
  abbrev pub lent : List ℕ
  lent = mid_of (cap * 4) (length ws - cap * 4) ws

  abbrev pub back : List ℕ
  back = put_mid (cap * 4) (length ws - cap * 4) ws ys

  pub lent_is : lent ≡ drop (cap * 4) ws
  lent_is = take_all (length ws - cap * 4) (drop (cap * 4) ws) (rw length-drop (le_refl _))

  back_is : back ≡ take (cap * 4) ws ++ ys
  back_is =
      let e : cap * 4 + (length ws - cap * 4) ≡ length ws = omega arith in
      ap (λ (t : List ℕ). take (cap * 4) ws ++ (ys ++ t)) (drop-drop (length ws - cap * 4) (cap * 4) ws ∙ ap (λ (k : ℕ). drop k ws) e ∙ drop-length ws)
      ∙ ap (λ (t : List ℕ). take (cap * 4) ws ++ t) (append-nil ys)

  front : length (take (cap * 4) ws) ≡ cap * 4
  front = length-take-le (cap * 4) ws (omega arith)

  pub back_long : length ys ≡ length lent → length back ≡ length ws
  back_long e = ap length back_is ∙ length-append (take (cap * 4) ws) ys ∙ omega (arith, front, e, ap length lent_is, length-drop (cap * 4) ws)

  -- a word before the heap
  back_front : Alike ws back 0 (cap * 4)
  back_front i a b =
      ap (λ (t : List ℕ). get_or t i 0) back_is
      ∙ get_or-append (take (cap * 4) ws) ys 0 i (rw front b)
      ∙ get_or-take (cap * 4) ws i 0 b

  -- a word of the heap and after
  back_at : (j : ℕ) → get_or back (cap * 4 + j) 0 ≡ get_or ys j 0
  back_at j =
      ap (λ (t : List ℕ). get_or t (cap * 4 + j) 0) back_is
      ∙ ap (λ (k : ℕ). get_or (take (cap * 4) ws ++ ys) (k + j) 0) (sym front)
      ∙ get_or-append-add (take (cap * 4) ws) ys j 0

  module _ (rest : drop m ys ≡ drop m lent) where
    -- a word after what may have changed
    back_rest : (j : ℕ) → m ≤ j → get_or back (cap * 4 + j) 0 ≡ get_or ws (cap * 4 + j) 0
    back_rest j h =
        let e : m + (j - m) ≡ j = omega arith in
        back_at j
        ∙ ap (λ (k : ℕ). get_or ys k 0) (sym e)
        ∙ sym (get_or-drop m ys (j - m) 0)
        ∙ ap (λ (t : List ℕ). get_or t (j - m) 0) (rest ∙ ap (drop m) lent_is)
        ∙ get_or-drop m (drop (cap * 4) ws) (j - m) 0
        ∙ ap (λ (k : ℕ). get_or (drop (cap * 4) ws) k 0) e
        ∙ get_or-drop (cap * 4) ws j 0

    back_past : (lo hi : ℕ) → m ≤ cap → cap * 5 ≤ lo → Alike ws back lo hi
    back_past lo hi h g i a b = let e : cap * 4 + (i - cap * 4) ≡ i = omega arith in rw e at (back_rest (i - cap * 4) (omega arith))

    pub back_cells : m ≤ cap → cells cap back ≡ with_heap (cells cap back).heap (cells cap ws)
    back_cells h =
        cells_by _ _ (pieces_same cap ws back back_front) refl
        (homes_same cap ws back (back_past (cap * 5) (cap * 6) h (omega arith)))
        (active_same cap ws back (back_past (cap * 6) (cap * 7) h (omega arith)))

  -- the first j keys
  pub back_keys : length ys ≡ length lent → (j : ℕ) → j ≤ cap → take j (cells cap back).heap ≡ take j ys
  back_keys e j h =
      ap (take j) (heap_is cap back (omega (arith, back_long e)) ∙ ap (λ (t : List ℕ). take cap (drop (cap * 4) t)) back_is ∙ ap (take cap) (drop_at (take (cap * 4) ws) ys (cap * 4) front))
      ∙ take-take j cap ys h

  pub lent_keys : (j : ℕ) → j ≤ cap → take j (cells cap ws).heap ≡ take j lent
  lent_keys j h = ap (take j) (heap_is cap ws (omega arith)) ∙ take-take j cap (drop (cap * 4) ws) h ∙ ap (take j) (sym lent_is)

-- the order of a heap is that of its first n keys
ord_by : (h g : List ℕ) (n : ℕ) → take n h ≡ take n g → Ord h n → Ord g n
ord_by h g n e o i a b =
    let at : (j : ℕ) → j < n → get_or g j 0 ≡ get_or h j 0 = λ j l. sym (get_or-take n g j 0 l) ∙ ap (λ (t : List ℕ). get_or t j 0) (sym e) ∙ get_or-take n h j 0 l in
    omega (arith, at ((i - 1) / 2) (omega arith), at i b, o i a b)

module _ (cap : ℕ) (ws : List ℕ) (n : ℕ) where
  pub opened : HeapOpen cap ws n → Open (mid_of (cap * 4) (length ws - cap * 4) ws) n
  opened h =
      let l : cap * 8 ≤ length ws = omega (arith, h.long) in
      record {
        room = omega (arith, h.inside, ap length (lent_is cap ws ws 0 l), length-drop (cap * 4) ws);
        ordered = ord_by _ _ n (lent_keys cap ws ws 0 l n (omega (arith, h.inside))) h.ordered;
      }

  pub filled : HeapFilled cap ws n → Filled (mid_of (cap * 4) (length ws - cap * 4) ws) n
  filled h =
      let l : cap * 8 ≤ length ws = omega (arith, h.long) in
      record {
        some = h.some;
        within = omega (arith, h.inside, ap length (lent_is cap ws ws 0 l), length-drop (cap * 4) ws);
        ordered = ord_by _ _ n (lent_keys cap ws ws 0 l n h.inside) h.ordered;
      }

  pub key_pushed : (ys : List ℕ) (k : ℕ) → HeapOpen cap ws n → Pushed (mid_of (cap * 4) (length ws - cap * 4) ws) ys n k → KeyPushed cap ws (put_mid (cap * 4) (length ws - cap * 4) ws ys) n k
  key_pushed ys k h p =
      let l : cap * 8 ≤ length ws = omega (arith, h.long) in
      let m : n + 1 ≤ cap = omega (arith, h.inside) in
      let e : take (n + 1) (cells cap (back cap ws ys 0 l)).heap ≡ take (n + 1) ys = back_keys cap ws ys 0 l p.long (n + 1) m in
      record {
        is = back_cells cap ws ys (n + 1) l p.rest m;
        ordered = ord_by _ _ (n + 1) (sym e) p.ordered;
        holds = ap sort e ∙ p.holds ∙ ap (λ (t : List ℕ). insert k (sort t)) (sym (lent_keys cap ws ys 0 l n (omega arith)));
        room = back_long cap ws ys 0 l p.long;
      }

  pub key_popped : (ys : List ℕ) (k : ℕ) → HeapFilled cap ws n → Popped (mid_of (cap * 4) (length ws - cap * 4) ws) ys n k → KeyPopped cap ws (put_mid (cap * 4) (length ws - cap * 4) ws ys) n k
  key_popped ys k h p =
      let l : cap * 8 ≤ length ws = omega (arith, h.long) in
      let e : take (n - 1) (cells cap (back cap ws ys 0 l)).heap ≡ take (n - 1) ys = back_keys cap ws ys 0 l p.long (n - 1) (omega (arith, h.inside)) in
      record {
        is = back_cells cap ws ys n l p.rest h.inside;
        ordered = ord_by _ _ (n - 1) (sym e) p.ordered;
        least = ap sort (lent_keys cap ws ys 0 l n h.inside) ∙ p.least ∙ ap (λ (t : List ℕ). k ∷ sort t) (sym e);
        room = back_long cap ws ys 0 l p.long;
      }

-- the piece at k, from its four words
pub piece_got : (cap : ℕ) (ws : List ℕ) (k : ℕ) (r : Piece) → At cap ws k
    → Unpacked (get_or ws (k * 4) 0) (get_or ws (k * 4 + 1) 0) (get_or ws (k * 4 + 2) 0) (get_or ws (k * 4 + 3) 0) r → PieceAt cap ws k r
piece_got cap ws k r a u = record { is = u.is ∙ piece_is cap ws k a.inside; small = u.small }

-- the home at k, from its word
pub home_got : (cap : ℕ) (ws : List ℕ) (k : ℕ) (r : Option ℕ) → At cap ws k → r ≡ home_in (get_or ws (cap * 5 + k) 0) → r ≡ get_or (cells cap ws).homes k None
home_got cap ws k r a e = e ∙ home_is cap ws k a.inside

-- the active record at k, from its word
pub active_got : (cap : ℕ) (ws : List ℕ) (k r : ℕ) → At cap ws k → r ≡ get_or ws (cap * 6 + k) 0 → r ≡ get_or (cells cap ws).active k 0
active_got cap ws k r a e = e ∙ active_is cap ws k a.inside

-- a piece is stored by its record's two words and its ranges
pub piece_stored : (cap : ℕ) (ws : List ℕ) (k : ℕ) (q : Piece) (r : Record) (row : List ℕ) (m s : ℕ) → At cap ws k → Packable q r
    → r.number < 65536 → r.first < 65536 → r.last < 65536
    → q.mentions.index < 65536 → q.mentions.count < 65536 → q.safepoints.index < 65536 → q.safepoints.count < 65536
    → row ≡ record_row r → m ≡ range_word q.mentions → s ≡ range_word q.safepoints
    → Becomes cap ws (set (set (set (set ws (k * 4) (get_or row 0 0)) (k * 4 + 1) (get_or row 1 0)) (k * 4 + 2) m) (k * 4 + 3) s) (with_pieces (set (cells cap ws).pieces k q) (cells cap ws))
piece_stored cap ws k q r row m s a p n f l mi mc si sc e em es =
    piece_put cap ws k (get_or row 0 0) (get_or row 1 0) m s q a
    (rw (e, em, es) (piece_back q r p.is (record { kind = p.kind; interval = p.interval; spare = p.spare; number = n; first = f; last = l }) mi mc si sc))
