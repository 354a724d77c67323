-- A class's row by its holders, filled from the last active record to the first. Assumes nothing.
use Rattle.std.specs.Prelude.{Option, None, Some}
use Prim.Native.Nat.{ℕ, ◌+◌, ◌-◌, ◌*◌, ◌≤◌, ◌<◌}
use mathlib.Core.Path.{◌≡◌, refl, sym, ap, subst, ◌∙◌}
use mathlib.Core.Bool.{Bool, true, false, ◌||◌}
use mathlib.Core.List.{List, ◌∷◌}
use native.Mathlib.Omega.{arith}
use native.Mathlib.Decide.{dec_le, dec_lt, ℕ_discrete}
use native.Mathlib.Numerals.{add-one}
use lib.ListN.{length, get_or, set, drop, length-set}
use lib.Dec.{eqb}
use lib.Seq.{get_or-set_same, get_or-set_other, drop-cons, drop-length}
use mir.Syntax.{w64}
use mir.Val.{Fits}
use borrow.Author.Tests.{le-leb, lt-leb, lt-ltb, le-ltb, eq-eqb, ne_eqb}
use Rattle.words.specs.Choose.{choose}
use Rattle.words.specs.declared.Range.{Range}
use Rattle.words.specs.Packed.{part, range_in, register_at}
use Rattle.rules.specs.declared.Piece.{Piece}
use Rattle.rules.specs.declared.Place.{Place}
use Rattle.rules.specs.declared.Place.TheVariants.{Nowhere, Register, Slot}
use Rattle.rules.specs.declared.Pos.{Pos}
use Rattle.rules.specs.declared.Pos.TheVariants.{Blocked, At, Never}
use Rattle.std.specs.Ordering.{ord_min}
use Rattle.rules.specs.contracts.PosOrd.TheImpl.{cmp-value}
use Rattle.rules.specs.Positions.{lower_of}
use Rattle.rules.proofs.Positions.{min_lower}
use Rattle.rules.specs.State.{Given, State, piece, fragments_of}
use Rattle.rules.specs.Steps.{is_register, holder_in, holder, is_held, fixed_active, first_start, free_until, next_use_pos, next_use_of, pos_of_use}
use Rattle.rules.specs.Uses.{mention_points, next_use}
use Rattle.uses.specs.Runs.{Rising}
use Rattle.store.specs.declared.Counts.{Counts}
use Rattle.store.specs.StateOf.{state_of, Ready, Got, GotActive}
use Rattle.store.proofs.StateLaws.{active_are, records_are}
use Rattle.activity.specs.declared.Tracker.{Tracker}
use Rattle.activity.specs.Bits.{has_bit, WithBit, NoneSet}
use Rattle.activity.specs.Fixed.{fixed_pos}
use Rattle.activity.specs.Cursors.{Facing}
use Rattle.activity.proofs.BitLaws.{no_bit}
use Rattle.activity.proofs.CursorLaws.{facing_faced}
use Rattle.activity.proofs.FixedLaws.{says_none}
use Rattle.choice.specs.Row.{pos_in, FixedRow}
use Rattle.choice.specs.Holding.{seat_of, use_of, next_pos, HolderRow, HeldMask, OpenRow, UnfixedRow, Runs, FreeRow, NextRow}

-- ---- seats
-- a seat inside is a register of first..stop, and that of the place
record Sits (first stop : ℕ) (place : Place) (r : ℕ) : Type 0 where
  low : first ≤ r
  high : r < stop
  register : place ≡ Register r

sits : (first stop : ℕ) (place : Place) (r : ℕ) → Some r ≡ seat_of first stop place → Sits first stop place r
unfolding seat_of
sits first stop Nowhere r e = absurd (let z : ◌≡◌ {A = ℕ} 0 1 = cc in omega arith)
sits first stop (Slot t) r e = absurd (let z : ◌≡◌ {A = ℕ} 0 1 = cc in omega arith)
sits first stop (Register x) r e = go (dec_le first x) (dec_lt x stop)
  where
    go : Dec (first ≤ x) → Dec (x < stop) → Sits first stop (Register x) r
    go (yes a) (yes b) = let f : Some r ≡ Some x = e ∙ simp (le-leb first x a, lt-ltb x stop b) in let q : x ≡ r = cc in record { low = omega arith; high = omega arith; register = rw q }
    go (yes a) (no b) = let f : Some r ≡ None = e ∙ simp (le-leb first x a, le-ltb x stop (omega arith)) in absurd (let z : ◌≡◌ {A = ℕ} 0 1 = cc in omega arith)
    go (no a) b = let f : Some r ≡ None = e ∙ simp (lt-leb first x (omega arith)) in absurd (let z : ◌≡◌ {A = ℕ} 0 1 = cc in omega arith)

-- so it has an entry in the row
pub seat_fits : (first count : ℕ) (place : Place) (seat : Option ℕ) (r : ℕ) → first + count ≤ 64 → seat ≡ seat_of first (first + count) place → seat ≡ Some r → r < 64
seat_fits first count place seat r h e f = omega (arith, (sits first (first + count) place r (sym f ∙ e)).high)

-- of 4 bytes
pub seat_span : (first count : ℕ) (place : Place) (seat : Option ℕ) (r : ℕ) → first + count ≤ 64 → seat ≡ seat_of first (first + count) place → seat ≡ Some r → Fits w64 (r * 4)
seat_span first count place seat r h e f = let l : r < 64 = seat_fits first count place seat r h e f in omega arith

-- a register of first..stop is not that of a place whose seat is outside
stands_off : (first stop : ℕ) (place : Place) (r : ℕ) → None ≡ seat_of first stop place → first ≤ r → r < stop → is_register r place ≡ false
unfolding seat_of
stands_off first stop Nowhere r e a b = refl
stands_off first stop (Slot t) r e a b = refl
stands_off first stop (Register x) r e a b = ne_eqb x r (λ q. absurd (let f : None ≡ Some x = e ∙ simp (le-leb first x (omega arith), lt-ltb x stop (omega arith)) in let z : ◌≡◌ {A = ℕ} 0 1 = cc in omega arith))

-- ---- the walk
-- the active records from i on have had their say
pub record Holding (F : ℕ → Option ℕ → Pos) (s : State) (first stop : ℕ) (b : List Pos) (i : ℕ) : Type 0 where
  pub is : (r : ℕ) → first ≤ r → r < stop → pos_in b r ≡ F r (holder_in s r (drop i s.active))
  pub long : length b ≡ 64
  pub upto : i ≤ length s.active

module _ (F : ℕ → Option ℕ → Pos) (s : State) (first stop : ℕ) (b : List Pos) where
  holding_starts : length b ≡ 64 → ((r : ℕ) → pos_in b r ≡ F r None) → Holding F s first stop b (length s.active)
  unfolding holder_in
  holding_starts l f = record { is = λ r a h. rw drop-length (f r); long = l; upto = omega arith }

  module _ (i : ℕ) (h : Holding F s first stop b (i + 1)) where
    -- record j is next, and it is in no register of the class
    holding_past : (q : Piece) → q ≡ piece s (get_or s.active i 0) → None ≡ seat_of first stop q.place → Holding F s first stop b i
    unfolding holder_in
    holding_past q e o =
        record {
          is = λ r a l.
              h.is r a l ∙ sym (rw (drop-cons s.active i 0 (omega (arith, h.upto)), add-one i) (simp (rw e at (stands_off first stop q.place r o a l))));
          long = h.long;
          upto = omega (arith, h.upto);
        }

    -- or in register x, which it holds
    holding_at : (q : Piece) → q ≡ piece s (get_or s.active i 0) → (x : ℕ) → Sits first stop q.place x → x < 64 → (v : Pos) → v ≡ F x (Some (get_or s.active i 0))
        → Holding F s first stop (set b x v) i
    unfolding holder_in
    holding_at q e x t m v f =
        record { is = λ r a l. at r a l (ℕ_discrete x r); long = rw length-set h.long; upto = omega (arith, h.upto) }
      where
        at : (r : ℕ) → first ≤ r → r < stop → Dec (x ≡ r) → pos_in (set b x v) r ≡ F r (holder_in s r (drop i s.active))
        at r a l (yes g) =
            let w : is_register x q.place ≡ true = rw t.register (eq-eqb x x refl) in
            let u : is_register x (piece s (get_or s.active i 0)).place ≡ true = rw e at w in
            rw (sym g) (get_or-set_same b x v Blocked (omega (arith, h.long)) ∙ f ∙ sym (rw (drop-cons s.active i 0 (omega (arith, h.upto))) (simp u)))
        at r a l (no g) =
            let w : is_register r q.place ≡ false = rw t.register (ne_eqb x r g) in
            let u : is_register r (piece s (get_or s.active i 0)).place ≡ false = rw e at w in
            get_or-set_other b x r v Blocked (λ k. g (sym k)) ∙ h.is r a l ∙ sym (rw (drop-cons s.active i 0 (omega (arith, h.upto)), add-one i) (simp u))

-- the walk as the code has it: the state lies in the work area, and i is counted down before it is read
module _ (F : ℕ → Option ℕ → Pos) (cap : ℕ) (ws : List ℕ) (c : Counts) (first count : ℕ) (b : List Pos) where
  module _ (i : ℕ) (h : Holding F (state_of cap ws c) first (first + count) b i) (p : 0 < i) (y : Ready cap ws c) where
    one_more : i - 1 + 1 ≡ i
    one_more = omega arith

    module _ (j : ℕ) (g : GotActive cap ws c (i - 1) j) (q : Piece) (k : Got cap ws c j q) (seat : Option ℕ) (o : seat ≡ seat_of first (first + count) q.place) where
      walk_piece : q ≡ piece (state_of cap ws c) (get_or (state_of cap ws c).active (i - 1) 0)
      walk_piece = rw (sym g.is) k.is

      -- the piece is in no register of the class
      pub walk_past : seat ≡ None → Holding F (state_of cap ws c) first (first + count) b (i - 1)
      walk_past e = holding_past F (state_of cap ws c) first (first + count) b (i - 1) (rw one_more h) q walk_piece (sym e ∙ o)

      -- or in register r
      module _ (r : ℕ) (e : seat ≡ Some r) where
        walk_sits : Sits first (first + count) q.place r
        walk_sits = sits first (first + count) q.place r (sym e ∙ o)

        pub walk_at : first + count ≤ 64 → (v : Pos) → v ≡ F r (Some j) → Holding F (state_of cap ws c) first (first + count) (set b r v) (i - 1)
        walk_at m v f =
            holding_at F (state_of cap ws c) first (first + count) b (i - 1) (rw one_more h) q walk_piece r walk_sits (omega (arith, walk_sits.high)) v (rw g.is at f)

-- ---- the registers that are held, as bits
-- the active records from i on have had their say
pub record Masked (s : State) (m i : ℕ) : Type 0 where
  pub is : (r : ℕ) → r < 64 → has_bit m r ≡ is_held (holder_in s r (drop i s.active))
  pub upto : i ≤ length s.active

module _ (cap : ℕ) (ws : List ℕ) (c : Counts) where
  pub mask_starts : Ready cap ws c → Masked (state_of cap ws c) 0 c.active
  unfolding holder_in
  mask_starts y =
      subst (λ (n : ℕ). Masked (state_of cap ws c) 0 n) (active_are cap ws c y)
      (record { is = λ r l. rw drop-length (no_bit r); upto = omega arith })

  module _ (m i : ℕ) (h : Masked (state_of cap ws c) m i) (p : 0 < i) (y : Ready cap ws c) where
    next : drop (i - 1) (state_of cap ws c).active ≡ get_or (state_of cap ws c).active (i - 1) 0 ∷ drop i (state_of cap ws c).active
    next = let e : i - 1 + 1 ≡ i = omega arith in rw (drop-cons (state_of cap ws c).active (i - 1) 0 (omega (arith, h.upto)), sym (add-one (i - 1)), e) refl

    module _ (j : ℕ) (g : GotActive cap ws c (i - 1) j) (q : Piece) (k : Got cap ws c j q) (seat : Option ℕ) (o : seat ≡ seat_of 0 64 q.place) where
      mask_piece : q ≡ piece (state_of cap ws c) (get_or (state_of cap ws c).active (i - 1) 0)
      mask_piece = rw (sym g.is) k.is

      -- the piece is in no register
      pub mask_past : seat ≡ None → Masked (state_of cap ws c) m (i - 1)
      unfolding holder_in
      mask_past e =
          record {
            is = λ r l. h.is r l ∙ sym (rw next (simp (rw mask_piece at (stands_off 0 64 q.place r (sym e ∙ o) (omega arith) l))));
            upto = omega (arith, h.upto);
          }

      -- or in register x, which is held
      pub mask_at : (x : ℕ) → seat ≡ Some x → (n : ℕ) → WithBit m x n → Masked (state_of cap ws c) n (i - 1)
      unfolding holder_in
      mask_at x e n w = record { is = λ r l. w.is r l ∙ at r l (ℕ_discrete x r); upto = omega (arith, h.upto) }
        where
          in_x : q.place ≡ Register x
          in_x = (sits 0 64 q.place x (sym e ∙ o)).register

          at : (r : ℕ) → r < 64 → Dec (x ≡ r) → (eqb x r || has_bit m r) ≡ is_held (holder_in (state_of cap ws c) r (drop (i - 1) (state_of cap ws c).active))
          at r l (yes d) =
              let u : is_register r (piece (state_of cap ws c) (get_or (state_of cap ws c).active (i - 1) 0)).place ≡ true = let w : is_register r q.place ≡ true = rw in_x (eq-eqb x r d) in rw mask_piece at w in
              rw (eq-eqb x r d, next) (sym (simp u))
          at r l (no d) =
              let u : is_register r (piece (state_of cap ws c) (get_or (state_of cap ws c).active (i - 1) 0)).place ≡ false = let w : is_register r q.place ≡ false = rw in_x (ne_eqb x r d) in rw mask_piece at w in
              rw (ne_eqb x r d, next) (h.is r l ∙ sym (simp u))

-- a register has a bit
pub seat_bit : (place : Place) (seat : Option ℕ) (r : ℕ) → seat ≡ seat_of 0 64 place → seat ≡ Some r → r < 64
seat_bit place seat r e f = (sits 0 64 place r (sym f ∙ e)).high

-- ---- free-until: a held register is blocked, the others are as their fragments say
-- the registers before r are filled: P says what each would be if it were not held
pub record Filled (P : ℕ → Pos) (first count m : ℕ) (b : List Pos) (r : ℕ) : Type 0 where
  pub is : (k : ℕ) → first ≤ k → k < r → pos_in b k ≡ choose (has_bit m k) Blocked (P k)
  pub long : length b ≡ 64
  pub low : first ≤ r
  pub upto : r ≤ first + count

module _ {P : ℕ → Pos} {first count m : ℕ} {b : List Pos} {r : ℕ} (g : Filled P first count m b r) where
  pub filled_more : (v : Pos) (taken : Bool) → taken ≡ has_bit m r → v ≡ choose taken Blocked (P r) → r < first + count → first + count ≤ 64 → Filled P first count m (set b r v) (r + 1)
  filled_more v taken w u h i =
      record { is = λ k a l. at k a l (ℕ_discrete r k); long = simp length-set g.long; low = omega (arith, g.low); upto = omega arith }
    where
      at : (k : ℕ) → first ≤ k → k < r + 1 → Dec (r ≡ k) → pos_in (set b r v) k ≡ choose (has_bit m k) Blocked (P k)
      at k a l (yes q) = rw (sym q) (get_or-set_same b r v Blocked (omega (arith, g.long)) ∙ u ∙ rw w refl)
      at k a l (no d) = get_or-set_other b r k v Blocked (λ q. d (sym q)) ∙ g.is k a (omega arith)

-- as their fragments say
abbrev pub fixed_at : List ℕ → List ℕ → ℕ → ℕ → ℕ → Pos
fixed_at rs fs S end k = fixed_pos S end (part (register_at rs k) fs)

module _ (rs fs : List ℕ) (first count S end m : ℕ) (b : List Pos) (r : ℕ) (g : Filled (fixed_at rs fs S end) first count m b r) where
  pub opening_more : {t : Tracker} (range : Range) (p v : Pos) (taken : Bool) → Facing rs fs S first count t → range ≡ range_in (get_or rs r 0) → p ≡ fixed_pos S end (part range fs)
      → taken ≡ has_bit m r → v ≡ choose taken Blocked p → r < first + count → Filled (fixed_at rs fs S end) first count m (set b r v) (r + 1)
  opening_more range p v taken y e f w u h = filled_more g v taken w (u ∙ rw (f, e) refl) h (omega (arith, y.inside, y.fixed.few))

-- or free for ever, where none has a fragment ahead
abbrev pub never_at : ℕ → Pos
never_at k = Never

-- a register with no fragment ahead is free for ever, as far as its fragments go
unfixed : {rs fs : List ℕ} {S first count : ℕ} {t : Tracker} (end : ℕ) → Facing rs fs S first count t → NoneSet t.ahead first count true → (r : ℕ) → first ≤ r → r < first + count
    → Never ≡ fixed_pos S end (part (register_at rs r) fs)
unfixed {rs} end y n r a l =
    let past = y.cursors.spent r (omega (arith, y.inside)) (n.none refl r a l) in
    says_none end (facing_faced y r a l (register_at rs r) refl) (omega (arith, past))

-- free-until, from the fragments and the holders
pub free_row : (rs fs : List ℕ) (s : State) (q : Piece) (first count m : ℕ) (o : List Pos) {t : Tracker} → Facing rs fs q.start first count t → HeldMask s m
    → OpenRow rs fs first count q.start q.end m o → FreeRow rs fs s q first count o
unfolding free_until fixed_pos
free_row rs fs s q first count m o y h x =
    record { is = λ g e f r a l. x.is r a l ∙ rw (e, f, h.is r (omega (arith, y.inside, y.fixed.few))) (go (is_held (holder s r)) (fixed_active q.start (part (register_at rs r) fs)) (first_start q.start q.end (part (register_at rs r) fs))) }
  where
    go : (a b : Bool) (p : Pos) → choose a Blocked (choose b Blocked p) ≡ choose (a || b) Blocked p
    go true b p = refl
    go false b p = refl

pub free_unfixed : (rs fs : List ℕ) (s : State) (q : Piece) (first count m : ℕ) (o : List Pos) {t : Tracker} (b : Bool) → Facing rs fs q.start first count t → HeldMask s m
    → NoneSet t.ahead first count b → b ≡ true → UnfixedRow first count m o → FreeRow rs fs s q first count o
free_unfixed rs fs s q first count m o b y h n e x =
    free_row rs fs s q first count m o y h (record { is = λ r a l. x.is r a l ∙ ap (λ (p : Pos). choose (has_bit m r) Blocked p) (unfixed q.end y (rw e at n) r a l) })

-- ---- next use: a held register has its piece's next use, unless its fragments come first
pub next_starts : (cap : ℕ) (ws : List ℕ) (c : Counts) (first stop : ℕ) (row : List Pos) (ms : List ℕ) (S : ℕ) → Ready cap ws c → length row ≡ 64
    → Holding (next_pos ms (state_of cap ws c) S row) (state_of cap ws c) first stop row c.active
unfolding next_pos use_of
next_starts cap ws c first stop row ms S y l =
    subst (λ (n : ℕ). Holding (next_pos ms (state_of cap ws c) S row) (state_of cap ws c) first stop row n) (active_are cap ws c y)
    (holding_starts (next_pos ms (state_of cap ws c) S row) (state_of cap ws c) first stop row l (λ r. refl))

module _ (cap : ℕ) (ws : List ℕ) (c : Counts) (j : ℕ) (q : Piece) (k : Got cap ws c j q) (ms : List ℕ) where
  pub next_used : (S : ℕ) (u v : Pos) (row : List Pos) (r : ℕ) → u ≡ pos_of_use (next_use S (mention_points (part q.mentions ms))) → v ≡ ord_min cmp-value.it u (pos_in row r)
      → v ≡ next_pos ms (state_of cap ws c) S row r (Some j)
  unfolding next_pos use_of
  next_used S u v row r e f = f ∙ min_lower u (pos_in row r) ∙ rw (e, k.is)

  pub next_rising : (i : ℕ) → Runs (state_of cap ws c) ms → Ready cap ws c → GotActive cap ws c i j → Rising q.mentions ms
  next_rising i n y g = rw k.is (n.rising j (omega (arith, g.inside, records_are cap ws c y)))

lower_blocked : (p : Pos) → lower_of p Blocked ≡ Blocked
lower_blocked Blocked = refl
lower_blocked (At x) = refl
lower_blocked Never = refl

-- with the rules' words
use_holder : (g : Given) (s : State) (S : ℕ) (h : Option ℕ) → use_of g.tables.mentions s S h ≡ next_use_of g s S h
unfolding use_of
use_holder g s S None = refl
use_holder g s S (Some j) = refl

same_fragments : {rs fs : List ℕ} (g : Given) (r : ℕ) → g.tables.registers ≡ rs → g.tables.fragments ≡ fs → fragments_of g r ≡ part (register_at rs r) fs
same_fragments g r e f = rw (sym e, sym f)

-- next-use positions, from the fixed row and the holders
pub next_row : (rs fs ms : List ℕ) (s : State) (q : Piece) (first count : ℕ) (row block o : List Pos)
    → FixedRow rs fs first count q.start q.end row block → HolderRow (next_pos ms s q.start block) s first count o → NextRow rs fs ms s q first count o
unfolding next_use_pos next_pos fixed_pos
next_row rs fs ms s q first count row block o x h =
    record {
      is = λ g e f m r a l.
          let S : ℕ = q.start in
          let u : Pos = next_use_of g s S (holder s r) in
          let n : use_of ms s S (holder s r) ≡ u = ap (λ (t : List ℕ). use_of t s S (holder s r)) (sym m) ∙ use_holder g s S (holder s r) in
          let p : pos_in block r ≡ fixed_pos S q.end (fragments_of g r) = x.held r a l ∙ ap (λ (t : List ℕ). fixed_pos S q.end t) (sym (same_fragments g r e f)) in
          h.is r a l ∙ rw (n, p) (go (fixed_active S (fragments_of g r)) u (first_start S q.end (fragments_of g r)));
    }
  where
    go : (b : Bool) (u p : Pos) → lower_of u (choose b Blocked p) ≡ choose b Blocked (lower_of u p)
    go true u p = lower_blocked u
    go false u p = refl
