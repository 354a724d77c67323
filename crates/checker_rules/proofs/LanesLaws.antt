-- Rule 4: what the walk by first points says of each register.
-- Assumes nothing.
use Prim.Native.Nat.{ℕ, ◌+◌, ◌<◌, ◌≤◌}
use mathlib.Core.List.{List}
use mathlib.Core.Path.{◌≡◌, refl, sym, ◌∙◌, ap}
use mathlib.Core.Bool.{Bool, true, false, not}
use mathlib.Core.Logic.{◌⊎◌, inl, inr}
use borrow.Author.Tests.{not-true, not-false}
use native.Mathlib.Omega.{arith}
use native.Mathlib.Decide.{ℕ_discrete}
use lib.ListN.{length, get_or, set}
use lib.Seq.{get_or-set_same, get_or-set_other}
use Rattle.words.specs.declared.Record.{Record}
use Rattle.std.specs.declared.option.Option.{Option}
use Rattle.std.specs.declared.option.Option.TheVariants.{None, Some}
use Rattle.checker_rules.specs.Says.{Says}
use Rattle.checker_rules.specs.Entries.{kind_of, number_of, first_of, last_of, Shown}
use Rattle.checker_rules.specs.Order.{rank, Due, Least}
use Rattle.checker_rules.specs.Lanes.{On, Lanes, Registers, Entered, Met, Frees}
use Rattle.checker_rules.proofs.SaysLaws.{says_true, says_false}
use Rattle.checker_rules.proofs.OrderLaws.{due, seen, all_seen}

-- the walk: whose turn it is, and from where on each register is free
pub record Entering (ws : List ℕ) (n : ℕ) (e : List ℕ) (turn : Option ℕ) : Type 0 where
  pub t : ℕ
  pub least : Least ws n t turn
  pub frees : Frees ws n e t
  pub room : 64 ≤ length e

-- after the walk
pub entering_ends : (ws : List ℕ) (n : ℕ) (e : List ℕ) (turn : Option ℕ) → Entering ws n e turn → turn ≡ None → Says true (Lanes ws n)
entering_ends ws n e turn g z =
    says_true record { apart = λ q p j k oj ok. g.frees.alone q p j k oj (all j oj.real) ok (all k ok.real) }
  where
    all : (k : ℕ) → k < n → rank ws k < g.t
    all = all_seen ws n g.t (rw z at g.least)

module _ (ws : List ℕ) (n : ℕ) (e e' : List ℕ) (k : ℕ) (turn : Option ℕ) (r : Record) (b : Bool) (g : Entering ws n e turn) (regs : Registers ws n 64) (few : n ≤ 16384)
    (ek : turn ≡ Some k) (s : Shown ws k r) (en : Entered e e' r b) where
  now : Due ws n g.t k
  now = due ws n g.t k turn g.least ek

  -- rank below t: it starts no later than k
  earlier : (j : ℕ) → j < n → rank ws j < g.t → first_of ws j ≤ first_of ws k
  earlier j h a = omega (arith, now.from, now.real)

  -- a register that is not free: the record before holds the same point
  pub entering_breaks : not b ≡ true → Says false (Lanes ws n)
  entering_breaks q =
      let f : b ≡ false = not-true b q in
      let l : first_of ws k < get_or e (number_of ws k) 0 = rw (s.first, s.number) at (en.clash f) in
      let m : Met ws n e g.t (number_of ws k) = g.frees.met (number_of ws k) (omega arith) in
      says_false
      (λ rule.
      let same : m.by ≡ k = rule.apart (number_of ws k) (first_of ws k) m.by k
      record { real = m.real; kind = m.kind; place = m.place; from = earlier m.by m.real m.seen; to = omega (arith, m.ends) }
      record { real = now.real; kind = sym s.kind ∙ en.holds f; place = refl; from = omega arith; to = regs.ordered k now.real } in
      let low : rank ws k < g.t = rw same at m.seen in
      omega (arith, now.from))

  module _ (turn' : Option ℕ) (q : not b ≡ false) (next : Least ws n (rank ws k + 1) turn') where
    ok : b ≡ true
    ok = not-false b q

    -- a slot record leaves all as it is
    slot : (r.kind ≡ 1 → ⊥) → Frees ws n e (rank ws k + 1)
    slot nk =
        record {
          past = λ j h a o. past j h o (seen ws n g.t k j few now h a);
          met = λ v a. let m = g.frees.met v a in
              record { by = m.by; real = m.real; kind = m.kind; place = m.place; ends = m.ends; seen = omega (arith, m.seen, now.from) };
          alone = λ v p i j oi ri oj rj. g.frees.alone v p i j oi (old i oi.kind (seen ws n g.t k i few now oi.real ri)) oj
              (old j oj.kind (seen ws n g.t k j few now oj.real rj));
        }
      where
        old : (j : ℕ) → kind_of ws j ≡ 1 → (rank ws j < g.t) ⊎ (j ≡ k) → rank ws j < g.t
        old j o (inl a) = a
        old j o (inr a) = absurd (nk (s.kind ∙ rw a at o))

        past : (j : ℕ) → j < n → kind_of ws j ≡ 1 → (rank ws j < g.t) ⊎ (j ≡ k) → last_of ws j < get_or e (number_of ws j) 0
        past j h o w = g.frees.past j h (old j o w) o

    module _ (ik : r.kind ≡ 1) where
      abbrev x : ℕ
      x = last_of ws k + 1

      own : On ws n (number_of ws k) (first_of ws k) k
      own = record { real = now.real; kind = sym s.kind ∙ ik; place = refl; from = omega arith; to = regs.ordered k now.real }

      free : get_or e (number_of ws k) 0 ≤ first_of ws k
      free = rw (s.number, s.first) at (en.free ok ik)

      here : get_or (set e (number_of ws k) x) (number_of ws k) 0 ≡ x
      here = get_or-set_same e (number_of ws k) x 0 (omega (arith, regs.below k now.real own.kind, g.room))

      by : (P : ℕ → Type 0) (v : ℕ) → (v ≡ number_of ws k → P x) → ((v ≡ number_of ws k → ⊥) → P (get_or e v 0)) → P (get_or (set e (number_of ws k) x) v 0)
      by P v f h = go (ℕ_discrete v (number_of ws k))
        where
          go : Dec (v ≡ number_of ws k) → P (get_or (set e (number_of ws k) x) v 0)
          go (yes w) = rw (w, here) (f w)
          go (no w) = rw (get_or-set_other e (number_of ws k) v x 0 w) (h w)

      -- a record of the register seen before ends below this one
      below : (v p j : ℕ) → On ws n v p j → rank ws j < g.t → On ws n v p k → ⊥
      below v p j oj a ok =
          let l : last_of ws j < get_or e (number_of ws k) 0 = rw (oj.place ∙ sym ok.place) at (g.frees.past j oj.real a oj.kind) in
          omega (arith, free, oj.to, ok.from)

      taken : Frees ws n (set e (number_of ws k) x) (rank ws k + 1)
      taken =
          record {
            past = λ j h a o. by (λ y. last_of ws j < y) (number_of ws j) (λ w. past j h o w (seen ws n g.t k j few now h a)) (λ w. other j h o w (seen ws n g.t k j few now h a));
            met = λ v. met v (ℕ_discrete v (number_of ws k));
            alone = λ v p i j oi ri oj rj. alone v p i j oi oj (seen ws n g.t k i few now oi.real ri) (seen ws n g.t k j few now oj.real rj);
          }
        where
          past : (j : ℕ) → j < n → kind_of ws j ≡ 1 → number_of ws j ≡ number_of ws k → (rank ws j < g.t) ⊎ (j ≡ k) → last_of ws j < last_of ws k + 1
          past j h o w (inl a) =
              let l : last_of ws j < get_or e (number_of ws k) 0 = rw w at (g.frees.past j h a o) in
              omega (arith, free, own.to)
          past j h o w (inr a) = rw a (omega arith)

          other : (j : ℕ) → j < n → kind_of ws j ≡ 1 → (number_of ws j ≡ number_of ws k → ⊥) → (rank ws j < g.t) ⊎ (j ≡ k) → last_of ws j < get_or e (number_of ws j) 0
          other j h o w (inl a) = g.frees.past j h a o
          other j h o w (inr a) = absurd (w (ap (λ (i : ℕ). number_of ws i) a))

          met : (v : ℕ) → Dec (v ≡ number_of ws k) → 0 < get_or (set e (number_of ws k) (last_of ws k + 1)) v 0 → Met ws n (set e (number_of ws k) (last_of ws k + 1)) (rank ws k + 1) v
          met v (yes w) a = record { by = k; real = now.real; kind = own.kind; place = sym w; ends = rw w (sym here); seen = omega arith }
          met v (no w) a =
              let same : get_or (set e (number_of ws k) (last_of ws k + 1)) v 0 ≡ get_or e v 0 = get_or-set_other e (number_of ws k) v (last_of ws k + 1) 0 w in
              let m = g.frees.met v (rw same at a) in
              record { by = m.by; real = m.real; kind = m.kind; place = m.place; ends = m.ends ∙ sym same; seen = omega (arith, m.seen, now.from) }

          alone : (v p i j : ℕ) → On ws n v p i → On ws n v p j → (rank ws i < g.t) ⊎ (i ≡ k) → (rank ws j < g.t) ⊎ (j ≡ k) → i ≡ j
          alone v p i j oi oj (inl a) (inl z) = g.frees.alone v p i j oi a oj z
          alone v p i j oi oj (inl a) (inr z) = absurd (below v p i oi a (rw z at oj))
          alone v p i j oi oj (inr a) (inl z) = absurd (below v p j oj z (rw a at oi))
          alone v p i j oi oj (inr a) (inr z) = a ∙ sym z

    step : Dec (r.kind ≡ 1) → Frees ws n e' (rank ws k + 1)
    step (yes ik) = rw (en.moves ok ik, s.number, s.last) (taken ik)
    step (no nk) = rw (en.stays nk) (slot nk)

    -- a register that is free is taken
    pub entering_more : Entering ws n e' turn'
    entering_more =
        record {
          t = rank ws k + 1;
          least = next;
          frees = step (ℕ_discrete r.kind 1);
          room = omega (arith, g.room, en.room);
        }
