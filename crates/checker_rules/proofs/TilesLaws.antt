-- Rule 1: what the walk by first points says of each point.
-- Assumes nothing.
use Prim.Native.Nat.{ℕ, ◌+◌, ◌<◌, ◌≤◌}
use mathlib.Core.List.{List}
use mathlib.Core.Path.{◌≡◌, refl, sym, ◌∙◌, ap}
use mathlib.Core.Bool.{Bool, true, false, not}
use borrow.Author.Tests.{not-true, not-false}
use mathlib.Core.Logic.{◌⊎◌, inl, inr}
use native.Mathlib.Omega.{arith}
use native.Mathlib.Decide.{dec_lt, ℕ_discrete}
use lib.ListN.{get_or, set, length-set}
use lib.Seq.{get_or-set_same, get_or-set_other}
use lib.Arith.{lt_of_le-ne}
use Rattle.words.specs.declared.Interval.{Interval}
use Rattle.words.specs.declared.Record.{Record}
use Rattle.words.specs.Packed.{interval_count}
use Rattle.std.specs.declared.option.Option.{Option}
use Rattle.std.specs.declared.option.Option.TheVariants.{Some}
use Rattle.checker_rules.specs.Says.{Says}
use Rattle.checker_rules.specs.Entries.{interval_of, first_of, last_of, start_of, end_of, Shown, Given}
use Rattle.checker_rules.specs.Order.{rank, Linked, Below, Due, Least}
use Rattle.checker_rules.specs.Tiles.{Sits, Loose, Covers, Once, Tiled, Tiling, Within, Fronts, Fronted, Joined, Seated, Judged}
use Rattle.checker_rules.proofs.SaysLaws.{clashes, says_false, says_same}
use Rattle.checker_rules.proofs.OrderLaws.{due, seen}
use Rattle.checker_rules.proofs.BridgeLaws.{decides_1}

-- one record: a test that fails, or all that pass
module _ (ws : List ℕ) (k : ℕ) (is : List ℕ) (r : Record) (s : Shown ws k r) where
  module _ (q : Interval) (z : Given is r.interval q) where
    at : start_of is (interval_of ws k) ≡ q.start
    at = rw (← s.interval) (sym z.start)

    to : end_of is (interval_of ws k) ≡ q.end
    to = rw (← s.interval) (sym z.end)

-- the walk: whose turn it is, and what was seen before
pub record Joining (ws : List ℕ) (n : ℕ) (is e : List ℕ) (turn : Option ℕ) : Type 0 where
  pub t : ℕ
  pub least : Least ws n t turn
  pub fronts : Fronts ws n is e t

module _ (ws : List ℕ) (n : ℕ) (is e : List ℕ) (k : ℕ) (turn : Option ℕ) (r : Record) (g : Joining ws n is e turn) (loose : Loose ws n is) (few : n ≤ 16384)
    (ek : turn ≡ Some k) (u : Seated ws is k r) where
  s : Shown ws k r
  s = u.shown

  abbrev t : ℕ
  t = g.t

  now : Due ws n g.t k
  now = due ws n g.t k turn g.least ek

  sat : Sits ws is k
  sat = loose.each k now.real

  own : Covers ws n (interval_of ws k) (first_of ws k) k
  own = record { real = now.real; names = refl; from = omega arith; to = sat.ordered }

  -- a record that starts elsewhere: a point is held twice, or by none
  pub joining_breaks : (get_or e r.interval 0 ≡ r.first → ⊥) → Joined ws n is e false
  joining_breaks ne =
      record {
        holds = λ q. clashes q;
        fails = λ _ tiled. go tiled (dec_lt (first_of ws k) (get_or e (interval_of ws k) 0));
        room = g.fronts.room;
      }
    where
      v : ℕ
      v = interval_of ws k

      differs : get_or e (interval_of ws k) 0 ≡ first_of ws k → ⊥
      differs q = ne (rw (s.interval, s.first) q)

      -- the record starts in a point that one before it holds
      twice : Tiled ws n is → first_of ws k < get_or e (interval_of ws k) 0 → ⊥
      twice tiled a =
          let o : Once ws n (interval_of ws k) (first_of ws k) = tiled.once _ _ sat.names sat.from (omega (arith, sat.ordered, sat.to)) in
          let b = g.fronts.covered (interval_of ws k) (first_of ws k) sat.names sat.from a in
          let same : b.0 ≡ k = o.only b.0 b.1 ∙ sym (o.only k own) in
          let low : rank ws k < g.t = rw same at b.2 in
          omega (arith, now.from)

      -- the point before the record is held by none
      gap : Tiled ws n is → get_or e (interval_of ws k) 0 < first_of ws k → ⊥
      gap tiled a =
          let o : Once ws n (interval_of ws k) (get_or e (interval_of ws k) 0)
          = tiled.once _ _ sat.names (g.fronts.low _ sat.names) (omega (arith, sat.ordered, sat.to)) in
          held o (dec_lt (rank ws o.one) g.t)
        where
          held : (o : Once ws n (interval_of ws k) (get_or e (interval_of ws k) 0)) → Dec (rank ws o.one < g.t) → ⊥
          held o (yes b) =
              let p = g.fronts.past o.one o.covers.real b in
              let q : last_of ws o.one < get_or e (interval_of ws k) 0 = rw o.covers.names at p in
              omega (arith, o.covers.to)
          held o (no b) =
              let p : rank ws k ≤ rank ws o.one = now.least o.one o.covers.real (omega arith) in
              omega (arith, o.covers.from, o.covers.real, now.real)

      go : Tiled ws n is → Dec (first_of ws k < get_or e (interval_of ws k) 0) → ⊥
      go tiled (yes a) = twice tiled a
      go tiled (no a) = gap tiled (lt_of_le-ne (omega arith) differs)

  module _ (x : ℕ) (turn' : Option ℕ) (same : get_or e r.interval 0 ≡ r.first) (ex : x ≡ r.last + 1) (next : Least ws n (rank ws k + 1) turn') where
    meets : get_or e (interval_of ws k) 0 ≡ first_of ws k
    meets = rw (← s.interval, ← s.first) same

    is_x : x ≡ last_of ws k + 1
    is_x = rw (← s.last) ex

    here : get_or (set e (interval_of ws k) x) (interval_of ws k) 0 ≡ x
    here = get_or-set_same e (interval_of ws k) x 0 (omega (arith, sat.names, g.fronts.room))

    -- what holds at v of the new list: at the record's own interval, and elsewhere
    by : (P : ℕ → Type 0) (v : ℕ) → (v ≡ interval_of ws k → P x) → ((v ≡ interval_of ws k → ⊥) → P (get_or e v 0)) → P (get_or (set e (interval_of ws k) x) v 0)
    by P v f h = go (ℕ_discrete v (interval_of ws k))
      where
        go : Dec (v ≡ interval_of ws k) → P (get_or (set e (interval_of ws k) x) v 0)
        go (yes q) = rw (q, here) (f q)
        go (no q) = rw (get_or-set_other e (interval_of ws k) v x 0 q) (h q)

    more : Fronts ws n is (set e (interval_of ws k) x) (rank ws k + 1)
    more =
        record {
          low = λ v h. by (λ y. start_of is v ≤ y) v (λ q. rw q (omega (arith, sat.from, sat.ordered, is_x))) (λ _. g.fronts.low v h);
          high = λ v h. by (λ y. y ≤ end_of is v + 1) v (λ q. rw q (omega (arith, sat.to, is_x))) (λ _. g.fronts.high v h);
          past = λ j h a. by (λ y. last_of ws j < y) (interval_of ws j) (λ q. past_own j h q (seen ws n g.t k j few now h a)) (λ q. past_other j h q (seen ws n g.t k j few now h a));
          covered = λ v p h a. by (λ y. p < y → Found v p) v (λ q b. cover v p h a q b (dec_lt p (first_of ws k))) (λ q b. up v p (g.fronts.covered v p h a b));
          alone = λ v p i j hi ri hj rj. alone v p i j hi hj (seen ws n g.t k i few now hi.real ri) (seen ws n g.t k j few now hj.real rj);
          room = rw (length-set e (interval_of ws k) x) g.fronts.room;
        }
      where
        Found : ℕ → ℕ → Type 0
        Found v p = (j : ℕ) × Covers ws n v p j × (rank ws j < rank ws k + 1)

        past_own : (j : ℕ) → j < n → interval_of ws j ≡ interval_of ws k → (rank ws j < g.t) ⊎ (j ≡ k) → last_of ws j < x
        past_own j h q (inl b) =
            let p : last_of ws j < get_or e (interval_of ws k) 0 = rw q at (g.fronts.past j h b) in
            omega (arith, sat.ordered, meets, is_x)
        past_own j h q (inr b) = rw b (omega (arith, is_x))

        past_other : (j : ℕ) → j < n → (interval_of ws j ≡ interval_of ws k → ⊥) → (rank ws j < g.t) ⊎ (j ≡ k) → last_of ws j < get_or e (interval_of ws j) 0
        past_other j h q (inl b) = g.fronts.past j h b
        past_other j h q (inr b) = absurd (q (ap (λ (i : ℕ). interval_of ws i) b))

        up : (v p : ℕ) → (j : ℕ) × Covers ws n v p j × (rank ws j < g.t) → Found v p
        up v p f = (f.0, f.1, omega (arith, now.from, f.2))

        cover : (v p : ℕ) → v < interval_count is → start_of is v ≤ p → v ≡ interval_of ws k → p < x → Dec (p < first_of ws k) → Found v p
        cover v p h a q b (yes l) =
            up v p (g.fronts.covered v p h a (rw q (omega (arith, meets))))
        cover v p h a q b (no l) =
            (k, record { real = now.real; names = sym q; from = omega arith; to = omega (arith, is_x) }, omega arith)

        -- a record seen before ends below this one
        below : (v p j : ℕ) → Covers ws n v p j → rank ws j < g.t → Covers ws n v p k → ⊥
        below v p j hj b hk =
            let q : last_of ws j < get_or e (interval_of ws k) 0 = rw (hj.names ∙ sym hk.names) at (g.fronts.past j hj.real b) in
            omega (arith, meets, hj.to, hk.from)

        alone : (v p i j : ℕ) → Covers ws n v p i → Covers ws n v p j → (rank ws i < g.t) ⊎ (i ≡ k) → (rank ws j < g.t) ⊎ (j ≡ k) → i ≡ j
        alone v p i j hi hj (inl a) (inl b) = g.fronts.alone v p i j hi a hj b
        alone v p i j hi hj (inl a) (inr b) = absurd (below v p i hi a (rw b at hj))
        alone v p i j hi hj (inr a) (inl b) = absurd (below v p j hj b (rw a at hi))
        alone v p i j hi hj (inr a) (inr b) = a ∙ sym b

    -- a record that starts where its interval is to go on
    pub joining_more : Joining ws n is (set e r.interval x) turn'
    joining_more =
        rw s.interval
        record { t = rank ws k + 1; least = next; fronts = more }

-- an interval that stops short misses a point, and where none does each point is held once
pub ended_is : (ws : List ℕ) (n : ℕ) (is e : List ℕ) (b : Bool) (m : ℕ) → Fronted ws n is e → m ≡ interval_count is → Says b ((v : ℕ) → v < m → get_or e v 0 ≡ end_of is v + 1)
    → Says b (Tiled ws n is)
ended_is ws n is e b m f em d = says_same held full (rw em at d)
  where
    held : ((v : ℕ) → v < interval_count is → get_or e v 0 ≡ end_of is v + 1) → Tiled ws n is
    held g =
        record {
          once = λ u p a b c.
              let k = f.fronts.covered u p a b (omega (arith, g u a)) in
              record {
                one = k.0;
                covers = k.1;
                only = λ j hj. f.fronts.alone u p j k.0 hj (f.all j hj.real) k.1 k.2;
              };
        }

    short : Tiled ws n is → (v : ℕ) → v < interval_count is → (get_or e v 0 ≡ end_of is v + 1 → ⊥) → ⊥
    short tiled v h m =
        let u : get_or e v 0 < end_of is v + 1 = lt_of_le-ne (f.fronts.high v h) m in
        let o : Once ws n v (get_or e v 0) = tiled.once v (get_or e v 0) h (f.fronts.low v h) (omega arith) in
        let p = f.fronts.past o.one o.covers.real (f.all o.one o.covers.real) in
        let b : last_of ws o.one < get_or e v 0 = rw o.covers.names at p in
        omega (arith, o.covers.to)

    full : Tiled ws n is → (v : ℕ) → v < interval_count is → get_or e v 0 ≡ end_of is v + 1
    full t v h = go (ℕ_discrete (get_or e v 0) (end_of is v + 1))
      where
        go : Dec (get_or e v 0 ≡ end_of is v + 1) → get_or e v 0 ≡ end_of is v + 1
        go (yes q) = q
        go (no q) = absurd (short t v h q)

-- where all records sit, none starts past the last point
pub below : (ws : List ℕ) (n : ℕ) (is : List ℕ) (points : ℕ) (b : Bool) → Says b (Loose ws n is) → not b ≡ false → Within is points → Below ws n points
below ws n is points b s e w =
    let l : Loose ws n is = s.holds (not-false b e) in
    record {
      under = λ k h. omega (arith, (l.each k h).ordered, (l.each k h).to, w.under (interval_of ws k) (l.each k h).names);
      most = w.most;
    }

-- a record that does not sit breaks the rule
pub rule1_loose : (ws : List ℕ) (n : ℕ) (is head next : List ℕ) (b : Bool) → Says b (Loose ws n is) → not b ≡ true → Judged ws n is head next false
rule1_loose ws n is head next b s e =
    record {
      decides = decides_1 ws n is false (says_false (λ r. s.fails (not-true b e) r.loose));
      tiling = λ q. clashes q;
      chains = λ q. clashes q;
    }

-- all sit: the walk decides
pub rule1_tiled : (ws : List ℕ) (n : ℕ) (is head next : List ℕ) (b r : Bool) → Says b (Loose ws n is) → not b ≡ false → Linked ws n head next
    → Says r (Tiled ws n is) → Judged ws n is head next r
rule1_tiled ws n is head next b r s e l t =
    record {
      decides = decides_1 ws n is r (record { holds = whole; fails = λ q u. t.fails q u.tiled });
      tiling = whole;
      chains = λ _. l;
    }
  where
    whole : r ≡ true → Tiling ws n is
    whole q = record { loose = s.holds (not-false b e); tiled = t.holds q }
