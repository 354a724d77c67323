-- From cells to states: what each primitive does to the state that the cells hold.
-- Assumes nothing.
use Rattle.std.specs.Prelude.{Option, None, Some}
use Prim.Native.Nat.{ℕ, zero, suc, ◌+◌, ◌-◌, ◌*◌, ◌%◌, ◌^◌, ◌≤◌, ◌<◌}
use mathlib.Core.Path.{◌≡◌, refl, sym, ap, subst, ◌∙◌}
use mathlib.Core.List.{List, [], ◌∷◌, ◌++◌}
use native.Mathlib.Omega.{arith}
use native.Mathlib.Numerals.{add-one}
use lib.ListN.{length, get_or, set, take}
use lib.Seq.{length-take-le, take-set-lt, take-suc-set, get_or-take}
use Rattle.rules.specs.declared.Piece.{Piece}
use Rattle.rules.specs.declared.Place.{Place}
use Rattle.rules.specs.declared.Place.TheVariants.{Slot}
use Rattle.rules.specs.State.{State, with_pieces, with_queue, with_active, with_homes, with_place, no_piece, piece, put, key, enqueue}
use Rattle.rules.specs.Slots.{round_up, spill_to}
use Rattle.queue.specs.Heap.{Ord, sort}
use Rattle.store.specs.Cells as cells
use Rattle.store.specs.Cells.{Cells, cells, Becomes, PieceAt, KeyPushed, KeyPopped}
use Rattle.store.specs.StateOf.{state_in, state_of, with_records, with_queued, with_actives, with_total, spilled_in, HomeOf, Homeless, Size, Rounded, Sane, Ready, After, Got, PutInto, GotActive, PoppedAs}
use Rattle.store.specs.declared.Counts.{Counts}
use Rattle.store.proofs.CellLaws.{length_pieces, length_active}
use Rattle.store.proofs.SaneLaws.{each_at, each_snoc, sane_set, sane_append, sane_enqueue, sane_pop, popped_named, sane_active, sane_home, spilled_less, round_most}

-- ---- how many of each there are
module _ (cap : ℕ) (ws : List ℕ) (c : Counts) where
  -- as many records as are counted
  pub records_are : Ready cap ws c → length (state_of cap ws c).pieces ≡ c.records
  unfolding state_of
  records_are r = length-take-le c.records (cells cap ws).pieces (omega (arith, r.records, length_pieces cap ws))

  -- as many active records as are counted
  pub active_are : Ready cap ws c → length (state_of cap ws c).active ≡ c.active
  unfolding state_of
  active_are r = length-take-le c.active (cells cap ws).active (omega (arith, r.held, r.records, length_active cap ws))

  -- a home for each interval
  pub homes_are : Ready cap ws c → length (state_of cap ws c).homes ≡ c.intervals
  homes_are r = r.sane.homes

  -- nothing counted as queued is nothing queued
  pub queue_empty : c.queued ≡ 0 → (state_of cap ws c).queue ≡ []
  unfolding state_of sort
  queue_empty e = rw e

-- ---- reading
module _ (cap : ℕ) (ws : List ℕ) (c : Counts) (k : ℕ) where
  piece_of : k < c.records → get_or (cells cap ws).pieces k no_piece ≡ piece (state_of cap ws c) k
  unfolding state_of
  piece_of h = sym (get_or-take c.records (cells cap ws).pieces k no_piece h)

  -- a record names an interval
  pub owner_of : Ready cap ws c → k < c.records → (piece (state_of cap ws c) k).interval < c.intervals
  owner_of r h = each_at _ (state_of cap ws c).pieces k no_piece r.sane.owners (omega (arith, records_are cap ws c r))

  -- record k, from its cell
  pub got : (q : Piece) → Ready cap ws c → k < c.records → PieceAt cap ws k q → Got cap ws c k q
  got q r h p = let e : q ≡ piece (state_of cap ws c) k = p.is ∙ piece_of h in record { is = e; owner = rw e (owner_of r h) }

  active_of : k < c.active → get_or (cells cap ws).active k 0 ≡ get_or (state_of cap ws c).active k 0
  unfolding state_of
  active_of h = sym (get_or-take c.active (cells cap ws).active k 0 h)

  -- active record k, from its cell
  pub got_active : (j : ℕ) → Ready cap ws c → k < c.active → j ≡ get_or (cells cap ws).active k 0 → GotActive cap ws c k j
  got_active j r h e =
      let f : j ≡ get_or (state_of cap ws c).active k 0 = e ∙ active_of h in
      let m = each_at _ (state_of cap ws c).active k 0 r.sane.actives (omega (arith, active_are cap ws c r)) in
      record { is = f; inside = omega (arith, f, m, records_are cap ws c r) }

-- ---- writing: ws is the area before, ws' after, c the counts before, d after
module _ (cap : ℕ) (ws ws' : List ℕ) (c : Counts) where
  -- what every state function has to show
  after_by : (d : Counts) (s : State) → Ready cap ws c → state_of cap ws' d ≡ s → Sane d.intervals s → Ord (cells cap ws').heap d.queued → length ws' ≡ length ws
      → c.records ≤ d.records → d.records ≤ cap → d.queued + d.active ≤ d.records → d.intervals ≡ c.intervals
      → After cap ws ws' c d s d.records d.queued d.active
  after_by d s r e z o l m n h v =
      record {
        is = e;
        ready =
            record {
              most = r.most;
              long = omega (arith, r.long, l);
              records = n;
              held = h;
              intervals = omega (arith, r.intervals);
              few = omega (arith, r.few);
              ordered = o;
              sane = rw e z;
            };
        records = refl;
        queued = refl;
        active = refl;
        intervals = v;
        long = l;
      }

  -- the order of the heap, where the heap is the same
  same_order : (x : Cells) → cells cap ws' ≡ x → x.heap ≡ (cells cap ws).heap → Ord (cells cap ws).heap c.queued → Ord (cells cap ws').heap c.queued
  same_order x e f o = subst (λ (h : List ℕ). Ord h c.queued) (sym (ap (λ (y : Cells). y.heap) e ∙ f)) o

  -- a store below the records in use sets that record's piece
  pub piece_set : (k : ℕ) (q : Piece) → Ready cap ws c → k < c.records → q.interval < c.intervals
      → Becomes cap ws ws' (cells.with_pieces (set (cells cap ws).pieces k q) (cells cap ws))
      → After cap ws ws' c c (with_pieces (set (state_of cap ws c).pieces k q) (state_of cap ws c)) c.records c.queued c.active
  piece_set k q r h o b =
      after_by c _ r is (sane_set c.intervals (state_of cap ws c) r.sane k q o) (same_order _ b.is refl r.ordered) b.room
      (omega arith) r.records r.held refl
    where
      is : state_of cap ws' c ≡ with_pieces (set (state_of cap ws c).pieces k q) (state_of cap ws c)
      is = unfold state_of in ap (λ (x : Cells). state_in x c) b.is ∙ rw (take-set-lt c.records (cells cap ws).pieces k q h)

  -- a piece is put into a place: its piece, read and changed
  pub place_put : (k : ℕ) (w : Place) (q p : Piece) → Got cap ws c k q → PutInto w q p
      → After cap ws ws' c c (with_pieces (set (state_of cap ws c).pieces k p) (state_of cap ws c)) c.records c.queued c.active
      → After cap ws ws' c c (put (state_of cap ws c) k w) c.records c.queued c.active
  unfolding put
  place_put k w q p g e a =
      let f : p ≡ with_place w (piece (state_of cap ws c) k) = e.is ∙ ap (with_place w) g.is in
      subst (λ (x : Piece). After cap ws ws' c c (with_pieces (set (state_of cap ws c).pieces k x) (state_of cap ws c)) c.records c.queued c.active) f a

  -- a store just past the records in use appends a record
  pub piece_appended : (q : Piece) → Ready cap ws c → c.records < cap → q.interval < c.intervals
      → Becomes cap ws ws' (cells.with_pieces (set (cells cap ws).pieces c.records q) (cells cap ws))
      → After cap ws ws' c (with_records (c.records + 1) c)
      (with_pieces ((state_of cap ws c).pieces ++ (q ∷ [])) (state_of cap ws c)) (c.records + 1) c.queued c.active
  piece_appended q r h o b =
      after_by (with_records (c.records + 1) c) _ r is (sane_append c.intervals (state_of cap ws c) r.sane q o)
      (same_order _ b.is refl r.ordered) b.room (omega arith) (omega arith) (omega (arith, r.held)) refl
    where
      is : state_of cap ws' (with_records (c.records + 1) c)
          ≡ with_pieces ((state_of cap ws c).pieces ++ (q ∷ [])) (state_of cap ws c)
      is =
          unfold state_of in
          ap (λ (x : Cells). state_in x (with_records (c.records + 1) c)) b.is
          ∙ rw (add-one, take-suc-set (cells cap ws).pieces c.records q (omega (arith, length_pieces cap ws)))

  -- a store just past the active records in use appends one
  pub active_pushed : (k : ℕ) → Ready cap ws c → k < c.records → c.queued + c.active < c.records
      → Becomes cap ws ws' (cells.with_active (set (cells cap ws).active c.active k) (cells cap ws))
      → After cap ws ws' c (with_actives (c.active + 1) c)
      (with_active ((state_of cap ws c).active ++ (k ∷ [])) (state_of cap ws c)) c.records c.queued (c.active + 1)
  active_pushed k r h o b =
      after_by (with_actives (c.active + 1) c) _ r is
      (sane_active c.intervals (state_of cap ws c) r.sane _ (each_snoc _ (state_of cap ws c).active k (omega (arith, records_are cap ws c r)) r.sane.actives))
      (same_order _ b.is refl r.ordered) b.room (omega arith) r.records (omega arith) refl
    where
      is : state_of cap ws' (with_actives (c.active + 1) c)
          ≡ with_active ((state_of cap ws c).active ++ (k ∷ [])) (state_of cap ws c)
      is =
          unfold state_of in
          ap (λ (x : Cells). state_in x (with_actives (c.active + 1) c)) b.is
          ∙ rw (add-one, take-suc-set (cells cap ws).active c.active k (omega (arith, length_active cap ws, r.records)))

  -- the key of record k, pushed on the heap, queues it
  pub record_queued : (k x : ℕ) (q : Piece) → Ready cap ws c → k < c.records → c.queued + c.active < c.records
      → Got cap ws c k q → x ≡ q.start * 16384 + k → KeyPushed cap ws ws' c.queued x
      → After cap ws ws' c (with_queued (c.queued + 1) c)
      (enqueue (state_of cap ws c) k) c.records (c.queued + 1) c.active
  record_queued k x q r h o g e b =
      after_by (with_queued (c.queued + 1) c) _ r is
      (sane_enqueue c.intervals (state_of cap ws c) r.sane k (omega (arith, records_are cap ws c r)) (omega (arith, r.records, r.most)))
      b.ordered b.room (omega arith) r.records (omega arith) refl
    where
      x_is : x ≡ key (state_of cap ws c) k
      x_is = e ∙ ap (λ (y : Piece). y.start * 16384 + k) g.is

      is : state_of cap ws' (with_queued (c.queued + 1) c) ≡ enqueue (state_of cap ws c) k
      is =
          unfold state_of enqueue in
          ap (λ (y : Cells). state_in y (with_queued (c.queued + 1) c)) b.is
          ∙ rw (b.holds, x_is)

  -- the key popped off the heap is the first of the queue
  pub first_popped : (x : ℕ) → Ready cap ws c → 0 < c.queued → KeyPopped cap ws ws' c.queued x
      → PoppedAs cap ws ws' c (record { «record» = x % 16384; counts = with_queued (c.queued - 1) c })
  first_popped x r h b =
      let d : Counts = with_queued (c.queued - 1) c in
      let first : (state_of cap ws c).queue ≡ x ∷ sort (take (c.queued - 1) (cells cap ws').heap) = unfold state_of in b.least in
      let a = after_by d _ r is (sane_pop c.intervals (state_of cap ws c) r.sane x _ first) b.ordered b.room (omega arith) r.records (omega (arith, r.held)) refl in
      record {
        x = x;
        xs = sort (take (c.queued - 1) (cells cap ws').heap);
        first = first;
        names = refl;
        inside = omega (arith, popped_named c.intervals (state_of cap ws c) r.sane x _ first, records_are cap ws c r);
        is = a.is;
        ready = a.ready;
        records = refl;
        queued = omega arith;
        active = refl;
        intervals = refl;
        long = b.room;
      }
    where
      is : state_of cap ws' (with_queued (c.queued - 1) c) ≡ with_queue (sort (take (c.queued - 1) (cells cap ws').heap)) (state_of cap ws c)
      is = unfold state_of in ap (λ (y : Cells). state_in y (with_queued (c.queued - 1) c)) b.is

  -- a store below the intervals gives that virtual register its slot
  pub home_given : (v t total : ℕ) → Ready cap ws c → v < c.intervals → get_or (state_of cap ws c).homes v None ≡ None → total ≤ 8 * spilled_in (state_of cap ws c).homes + 8
      → Becomes cap ws ws' (cells.with_homes (set (cells cap ws).homes v (Some t)) (cells cap ws))
      → After cap ws ws' c (with_total total c) (with_homes (set (state_of cap ws c).homes v (Some t)) total (state_of cap ws c)) c.records c.queued c.active
  home_given v t total r h e l b =
      after_by (with_total total c) _ r is (sane_home c.intervals (state_of cap ws c) v t total r.sane h e l)
      (same_order _ b.is refl r.ordered) b.room (omega arith) r.records r.held refl
    where
      is : state_of cap ws' (with_total total c) ≡ with_homes (set (state_of cap ws c).homes v (Some t)) total (state_of cap ws c)
      is = unfold state_of in ap (λ (y : Cells). state_in y (with_total total c)) b.is ∙ rw (take-set-lt c.intervals (cells cap ws).homes v (Some t) h)

-- one state function after another
pub after_then : (cap : ℕ) (ws ws₁ ws₂ : List ℕ) (c d e : Counts) (s t : State) (m q a m' q' a' : ℕ) → After cap ws ws₁ c d s m q a → After cap ws₁ ws₂ d e t m' q' a'
    → After cap ws ws₂ c e t m' q' a'
after_then cap ws ws₁ ws₂ c d e s t m q a m' q' a' f g =
    record {
      is = g.is;
      ready = g.ready;
      records = g.records;
      queued = g.queued;
      active = g.active;
      intervals = g.intervals ∙ f.intervals;
      long = g.long ∙ f.long;
    }

-- a size is a shifted bit
pub size_shifted : (l : ℕ) → l < 4 → Size l (1 * 2 ^ l % 2 ^ 32)
size_shifted zero h = record { is = omega arith; most = omega arith }
size_shifted (suc zero) h = record { is = omega arith; most = omega arith }
size_shifted (suc (suc zero)) h = record { is = omega arith; most = omega arith }
size_shifted (suc (suc (suc zero))) h = record { is = omega arith; most = omega arith }
size_shifted (suc (suc (suc (suc l)))) h = absurd (omega arith)

-- ---- spills
module _ (cap : ℕ) (ws : List ℕ) (c : Counts) (k v : ℕ) where
  total_is : (state_of cap ws c).total ≡ c.total
  unfolding state_of
  total_is = refl

  -- the home at v is virtual register v's
  home_of : v < c.intervals → get_or (cells cap ws).homes v None ≡ get_or (state_of cap ws c).homes v None
  unfolding state_of
  home_of h = sym (get_or-take c.intervals (cells cap ws).homes v None h)

  -- the home at the interval of record k is its virtual register's
  pub home_found : (q : Piece) (h : Option ℕ) → Got cap ws c k q → v ≡ q.interval → h ≡ get_or (cells cap ws).homes v None → HomeOf cap ws c k v h
  home_found q h g e f =
      record {
        owner = e ∙ ap (λ (x : Piece). x.interval) g.is;
        within = omega (arith, e, g.owner);
        is = f ∙ home_of (omega (arith, e, g.owner));
      }

  -- a home that is unspilled
  pub homeless : (h : Option ℕ) → HomeOf cap ws c k v h → h ≡ None → Homeless cap ws c k v
  homeless h g u = record { owner = g.owner; within = g.within; unspilled = sym g.is ∙ u }

  -- 4,095 others at most have a slot
  pub total_most : Ready cap ws c → Homeless cap ws c k v → c.total ≤ 32760
  total_most r h =
      let l : spilled_in (state_of cap ws c).homes < c.intervals = rw (homes_are cap ws c r) at (spilled_less (state_of cap ws c).homes v (rw (homes_are cap ws c r) h.within) h.unspilled) in
      omega (arith, r.sane.slots, r.few, total_is)

  -- the slot and its size are within 8 for each virtual register that has a slot, v too
  pub total_room : (l t z : ℕ) → Ready cap ws c → l < 4 → Rounded c.total l t → Size l z → t + z ≤ 8 * spilled_in (state_of cap ws c).homes + 8
  total_room l t z r h p e =
      let m : c.total ≤ 8 * spilled_in (state_of cap ws c).homes = omega (arith, r.sane.slots, total_is) in
      omega (arith, p.is, e.most, round_most c.total (spilled_in (state_of cap ws c).homes) l h m)

  -- the first spill: the home is given, then the record is put into the slot
  pub first_spilled : (ws₁ ws₂ : List ℕ) (d : Counts) (l t z m q a : ℕ) → Homeless cap ws c k v → Rounded c.total l t → Size l z
      → After cap ws ws₁ c d (with_homes (set (state_of cap ws c).homes v (Some t)) (t + z) (state_of cap ws c)) m q a
      → After cap ws₁ ws₂ d d (put (state_of cap ws₁ d) k (Slot t)) d.records d.queued d.active
      → After cap ws ws₂ c d (spill_to (state_of cap ws c) k (2 ^ l) None) m q a
  unfolding spill_to
  first_spilled ws₁ ws₂ d l t z m q a h p e f g =
      record {
        is = g.is ∙ ap (λ (x : State). put x k (Slot t)) f.is ∙ rw (h.owner, e.is, p.is ∙ ap (λ (x : ℕ). round_up x (2 ^ l)) (sym total_is));
        ready = g.ready;
        records = f.records;
        queued = f.queued;
        active = f.active;
        intervals = f.intervals;
        long = g.long ∙ f.long;
      }

  -- a spill, by the home of record k's virtual register
  module _ (ws' : List ℕ) (d : Counts) (z m n a : ℕ) (h : Option ℕ) where
    pub spilled_again : (t : ℕ) → h ≡ Some t → After cap ws ws' c d (put (state_of cap ws c) k (Slot t)) m n a → After cap ws ws' c d (spill_to (state_of cap ws c) k z h) m n a
    unfolding spill_to
    spilled_again t u b = rw u b

    pub spilled_by : HomeOf cap ws c k v h → After cap ws ws' c d (spill_to (state_of cap ws c) k z h) m n a
        → After cap ws ws' c d (spill_to (state_of cap ws c) k z (get_or (state_of cap ws c).homes (piece (state_of cap ws c) k).interval None)) m n a
    spilled_by g b = rw (← g.owner, ← g.is) b
