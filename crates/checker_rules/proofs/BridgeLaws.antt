-- The rules of Placement, turned into what the tests go by, and back. "Records", "points" and "fragments" are the same on both sides; the parts are put together in another way.
-- Assumes nothing.
use Prim.Native.Nat.{ℕ, ◌+◌, ◌*◌, ◌<◌, ◌≤◌}
use mathlib.Core.List.Memᴰ
use mathlib.Core.List.{List, [], ◌∷◌, ◌++◌, Memᴰ}
use mathlib.Core.Logic.{◌⊎◌, inl, inr, ⊎_elim}
use mathlib.Core.Path.{◌≡◌, refl, sym, ◌∙◌}
use mathlib.Core.Bool.{Bool, true, false}
use native.Mathlib.Omega.{arith}
use lib.ListN.{get_or}
use Rattle.words.specs.Choose.{choose}
use Rattle.words.specs.Points.{use_point, def_point}
use Rattle.words.specs.Packed.{mention_in}
use Rattle.rules.specs.Uses.{at_use, at_def, points_in}
use Rattle.rules.specs.Tables.{Tables}
use Rattle.rules.specs.Placement.{Claim, Rule1, Rule2, Rule3, Rule4, Rule5, Rule6, Rule7}
use Rattle.checker_rules.specs.Says.{Says}
use Rattle.checker_rules.specs.Entries.{kind_of, interval_of, spare_of, number_of, first_of, last_of, class_of, reference_of, size_at, start_of, end_of, mentions_from, mentions_to, safepoints_from, safepoints_to}
use Rattle.checker_rules.specs.Decides.{Decides1, Decides2, Decides3, Decides4, Decides5, Decides6, Decides7}
use Rattle.checker_rules.specs.Tiles.{Sits, Once, Tiling}
use Rattle.checker_rules.specs.Housed.{Point, Housing}
use Rattle.checker_rules.specs.Usable.{Suits}
use Rattle.checker_rules.specs.Lanes.{Lanes}
use Rattle.checker_rules.specs.Fixed.{Clear}
use Rattle.checker_rules.specs.Slots.{Slot, Slots}
use Rattle.checker_rules.specs.Safe.{Safe}
use Rattle.checker_rules.proofs.SaysLaws.{clashes, says_same}

-- the points of a mention, as a list and by cases
pub point_in : (w p : ℕ) → Point w p → Memᴰ p (points_in (mention_in w))
point_in w p o = go (at_use (mention_in w)) (at_def (mention_in w)) o
  where
    go : (u d : Bool) → ((p ≡ use_point (mention_in w).instruction) × (u ≡ true)) ⊎ ((p ≡ def_point (mention_in w).instruction) × (d ≡ true))
        → Memᴰ p (choose u (use_point (mention_in w).instruction ∷ []) [] ++ choose d (def_point (mention_in w).instruction ∷ []) [])
    go true d (inl a) = Memᴰ.head a.0
    go false d (inl a) = clashes a.1
    go true true (inr a) = Memᴰ.tail (Memᴰ.head a.0)
    go false true (inr a) = Memᴰ.head a.0
    go u false (inr a) = clashes a.1

pub in_point : (w p : ℕ) → Memᴰ p (points_in (mention_in w)) → Point w p
in_point w p i = go (at_use (mention_in w)) (at_def (mention_in w)) i
  where
    go : (u d : Bool) → Memᴰ p (choose u (use_point (mention_in w).instruction ∷ []) [] ++ choose d (def_point (mention_in w).instruction ∷ []) [])
        → ((p ≡ use_point (mention_in w).instruction) × (u ≡ true)) ⊎ ((p ≡ def_point (mention_in w).instruction) × (d ≡ true))
    go true true i = ⊎_elim (λ a. inl (a, refl)) (λ m. inr (Memᴰ.eq_of_singleton m, refl)) (Memᴰ.cases_cons i)
    go true false i = inl (Memᴰ.eq_of_singleton i, refl)
    go false true i = inr (Memᴰ.eq_of_singleton i, refl)
    go false false i = absurd (Memᴰ.not-nil i)

module _ (T : Tables) (c : Claim) where
  -- a record that never leaves its interval has both ends in it; "exactly one record" is "some record" and "no two"
  pub rule1_tiling : Rule1 T c → Tiling c.words c.count T.intervals
  unfolding kind_of interval_of spare_of first_of last_of start_of end_of
  rule1_tiling r =
      record {
        loose = record {
          each = λ k h.
              record {
                known = (r.packed k h).0;
                spare = (r.packed k h).1;
                ordered = (r.packed k h).2;
                names = r.names k h;
                from = (r.stays k h _ (omega arith, (r.packed k h).2)).0;
                to = (r.stays k h _ ((r.packed k h).2, omega arith)).1;
              };
        };
        tiled = record {
          once = λ v p h a b.
              let k = r.covers v h p (a, b) in
              record {
                one = k.0;
                covers = record { real = k.1; names = k.2; from = k.3.0; to = k.3.1 };
                only = λ j o. r.once j k.0 o.real k.1 (o.names ∙ sym k.2) p (o.from, o.to) k.3;
              };
        };
      }

  pub tiling_rule1 : Tiling c.words c.count T.intervals → Rule1 T c
  unfolding kind_of interval_of spare_of first_of last_of start_of end_of
  tiling_rule1 t =
      record {
        packed = λ k h. ((sits k h).known, (sits k h).spare, (sits k h).ordered);
        names = λ k h. (sits k h).names;
        stays = λ k h p o. (omega (arith, (sits k h).from, o.0), omega (arith, (sits k h).to, o.1));
        covers = λ v h p o. let n = t.tiled.once v p h o.0 o.1 in (n.one, n.covers.real, n.covers.names, (n.covers.from, n.covers.to));
        once = λ j k hj hk e p oj ok. same j k hj hk e p oj ok;
      }
    where
      sits : (k : ℕ) → k < c.count → Sits c.words T.intervals k
      sits k h = t.loose.each k h

      same : (j k : ℕ) → j < c.count → k < c.count → interval_of c.words j ≡ interval_of c.words k → (p : ℕ)
          → (first_of c.words j ≤ p) × (p ≤ last_of c.words j) → (first_of c.words k ≤ p) × (p ≤ last_of c.words k) → j ≡ k
      same j k hj hk e p oj ok =
          let n : Once c.words c.count (interval_of c.words k) p
          = t.tiled.once (interval_of c.words k) p (sits k hk).names (omega (arith, (sits k hk).from, ok.0)) (omega (arith, (sits k hk).to, ok.1)) in
          n.only j (record { real = hj; names = e; from = oj.0; to = oj.1 })
          ∙ sym (n.only k (record { real = hk; names = refl; from = ok.0; to = ok.1 }))

  -- mentions by index, their points by word
  pub rule2_housing : Rule2 T c → Housing c.words c.count T.intervals T.mentions
  unfolding kind_of interval_of first_of last_of mentions_from mentions_to
  rule2_housing r =
      record {
        each = λ v m h a b.
            let x = r.holds v h m (a, b) in
            record {
              by = x.0;
              real = x.1.0;
              names = x.2;
              held = record { kind = x.1.1; from = λ p o. (x.3 p (point_in _ p o)).0; to = λ p o. (x.3 p (point_in _ p o)).1 };
            };
      }

  pub housing_rule2 : Housing c.words c.count T.intervals T.mentions → Rule2 T c
  unfolding kind_of interval_of first_of last_of mentions_from mentions_to
  housing_rule2 u =
      record {
        holds = λ v h m o.
            let x = u.each v m h o.0 o.1 in
            (x.by, (x.real, x.held.kind), x.names, λ p i. (x.held.from p (in_point _ p i), x.held.to p (in_point _ p i)));
      }

  -- registers by record
  pub rule3_suits : Rule3 T c → (k : ℕ) → k < c.count → Suits c.words T.intervals T.classes k
  unfolding kind_of interval_of number_of class_of
  rule3_suits r k h =
      record { suits = λ e. record { from = (r.in_class k (h, e)).0; to = (r.in_class k (h, e)).1; scratch = λ q. r.not_scratch k (h, e) q } }

  pub suits_rule3 : ((k : ℕ) → k < c.count → Suits c.words T.intervals T.classes k) → Rule3 T c
  unfolding kind_of interval_of number_of class_of
  suits_rule3 f =
      record {
        in_class = λ k o. let u = (f k o.0).suits o.1 in (u.from, u.to);
        not_scratch = λ k o. ((f k o.0).suits o.1).scratch;
      }

  -- two records that share a point and a register
  pub rule4_lanes : Rule4 T c → Lanes c.words c.count
  unfolding kind_of number_of first_of last_of
  rule4_lanes r =
      record {
        apart = λ q p j k oj ok.
            r.apart j k (oj.real, oj.kind) (ok.real, ok.kind) (oj.place ∙ sym ok.place) p (oj.from, oj.to) (ok.from, ok.to);
      }

  pub lanes_rule4 : Lanes c.words c.count → Rule4 T c
  unfolding kind_of number_of first_of last_of
  lanes_rule4 l =
      record {
        apart = λ j k oj ok e p hj hk.
            l.apart (number_of c.words k) p j k
            record { real = oj.0; kind = oj.1; place = e; from = hj.0; to = hj.1 }
            record { real = ok.0; kind = ok.1; place = refl; from = hk.0; to = hk.1 };
      }

  -- fragments by index
  pub rule5_clear : Rule5 T c → (k : ℕ) → k < c.count → Clear c.words T.registers T.fragments k
  unfolding kind_of number_of first_of last_of
  rule5_clear r k h =
      record { clear = λ e m. r.apart k (h, e) m.by (m.from, m.to) m.point (m.after, m.before) (m.starts, m.ends) }

  pub clear_rule5 : ((k : ℕ) → k < c.count → Clear c.words T.registers T.fragments k) → Rule5 T c
  unfolding kind_of number_of first_of last_of
  clear_rule5 u =
      record {
        apart = λ k o f i p h g.
            (u k o.0).clear o.1 (record { by = f; from = i.0; to = i.1; point = p; after = h.0; before = h.1; starts = g.0; ends = g.1 });
      }

  -- slots by record
  pub rule6_slots : Rule6 T c → Slots c.words c.count T.intervals c.total
  unfolding kind_of interval_of number_of size_at
  rule6_slots r =
      record {
        one = λ j k sj sk e. r.one j k (sj.real, sj.kind) (sk.real, sk.kind) e;
        fits = λ k s. r.multiple k (s.real, s.kind);
        apart = λ j k u sj sk oj ok. r.apart j k (sj.real, sj.kind) (sk.real, sk.kind) u (oj.from, oj.to) (ok.from, ok.to);
        most = λ k s. r.most k (s.real, s.kind);
        reached = ⊎_elim (λ z. inl z) (λ m. inr (record { by = m.0; slot = record { real = m.1.0; kind = m.1.1 }; ends = sym m.2 })) r.reached;
      }

  pub slots_rule6 : Slots c.words c.count T.intervals c.total → Rule6 T c
  unfolding kind_of interval_of number_of size_at
  slots_rule6 s =
      record {
        one = λ j k sj sk e. s.one j k (slot j sj) (slot k sk) e;
        multiple = λ k o. s.fits k (slot k o);
        apart = λ j k sj sk u oj ok. s.apart j k u (slot j sj) (slot k sk) (record { from = oj.0; to = oj.1 }) (record { from = ok.0; to = ok.1 });
        most = λ k o. s.most k (slot k o);
        reached = ⊎_elim (λ z. inl z) (λ m. inr (m.by, (m.slot.real, m.slot.kind), sym m.ends)) s.reached;
      }
    where
      slot : (k : ℕ) → (k < c.count) × (kind_of c.words k ≡ 2) → Slot c.words c.count k
      slot k o = record { real = o.0; kind = o.1 }

  -- safepoints by index
  pub rule7_safe : Rule7 T c → (k : ℕ) → k < c.count → Safe c.words T.intervals T.mentions T.safepoints k
  unfolding kind_of interval_of first_of last_of reference_of mentions_from mentions_to safepoints_from safepoints_to
  rule7_safe r k h =
      record {
        safe = λ e f. record {
          each = λ j o.
              let d = r.defined k (h, e) f j (record { own = (o.from, o.to); inside = (o.after, o.before); least = λ i n l u. o.none i n.0 l u.0 u.1 }) in
              record { inside = d.0.1; defined = record { by = d.1.0; from = d.1.1.0; to = d.1.1.1; point = in_point _ _ d.1.2 } };
        };
      }

  pub safe_rule7 : ((k : ℕ) → k < c.count → Safe c.words T.intervals T.mentions T.safepoints k) → Rule7 T c
  unfolding kind_of interval_of first_of last_of reference_of mentions_from mentions_to safepoints_from safepoints_to
  safe_rule7 u =
      record {
        defined = λ k o e j f.
            let d = ((u k o.0).safe o.1 e).each j
            record { from = f.own.0; to = f.own.1; after = f.inside.0; before = f.inside.1; none = λ i a l s t. f.least i (a, below f.own.1 l) l (s, t) } in
            ((after _ (get_or T.safepoints j 0) f.inside.0, d.inside), (d.defined.by, (d.defined.from, d.defined.to), point_in _ _ d.defined.point));
      }
    where
      below : {i j h : ℕ} → j < h → i < j → i < h
      below a b = omega arith

      after : (a s : ℕ) → a ≤ 2 * s → a ≤ 2 * s + 1
      after a s h = omega arith

-- rule 1
pub decides_1 : (ws : List ℕ) (n : ℕ) (is : List ℕ) (r : Bool) → Says r (Tiling ws n is) → Decides1 ws n is r
decides_1 ws n is r s =
    record { says = λ T c o e. says_same (tiling_rule1 T c) (rule1_tiling T c) (rw (o.words, o.count, e) s) }

-- rule 2
pub decides_2 : (ws : List ℕ) (n : ℕ) (is ms : List ℕ) (r : Bool) → Says r (Housing ws n is ms) → Decides2 ws n is ms r
decides_2 ws n is ms r s =
    record { says = λ T c o e f. says_same (housing_rule2 T c) (rule2_housing T c) (rw (o.words, o.count, e, f) s) }

-- rule 3
pub decides_3 : (ws : List ℕ) (n : ℕ) (is cs : List ℕ) (r : Bool) → Says r ((k : ℕ) → k < n → Suits ws is cs k) → Decides3 ws n is cs r
decides_3 ws n is cs r s =
    record { says = λ T c o e f. says_same (suits_rule3 T c) (rule3_suits T c) (rw (o.words, o.count, e, f) s) }

-- rule 4
pub decides_4 : (ws : List ℕ) (n : ℕ) (r : Bool) → Says r (Lanes ws n) → Decides4 ws n r
decides_4 ws n r s = record { says = λ T c o. says_same (lanes_rule4 T c) (rule4_lanes T c) (rw (o.words, o.count) s) }

-- rule 5
pub decides_5 : (ws : List ℕ) (n : ℕ) (rs fs : List ℕ) (r : Bool) → Says r ((k : ℕ) → k < n → Clear ws rs fs k) → Decides5 ws n rs fs r
decides_5 ws n rs fs r s =
    record { says = λ T c o e f. says_same (clear_rule5 T c) (rule5_clear T c) (rw (o.words, o.count, e, f) s) }

-- rule 6
pub decides_6 : (ws : List ℕ) (n : ℕ) (is : List ℕ) (total : ℕ) (r : Bool) → Says r (Slots ws n is total) → Decides6 ws n is total r
decides_6 ws n is total r s =
    record { says = λ T c o e f. says_same (slots_rule6 T c) (rule6_slots T c) (rw (o.words, o.count, f, e) s) }

-- rule 7
pub decides_7 : (ws : List ℕ) (n : ℕ) (is ms ss : List ℕ) (r : Bool) → Says r ((k : ℕ) → k < n → Safe ws is ms ss k) → Decides7 ws n is ms ss r
decides_7 ws n is ms ss r s =
    record { says = λ T c o e f g. says_same (safe_rule7 T c) (rule7_safe T c) (rw (o.words, o.count, e, f, g) s) }
