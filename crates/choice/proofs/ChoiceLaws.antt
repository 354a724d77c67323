-- What the furthest register of a row is, in the words of `rules`: for the steps that take it. Assumes nothing.
use Prim.Native.Nat.{ℕ, zero, suc, ◌+◌, ◌≤◌, ◌<◌}
use mathlib.Core.Path.{◌≡◌, refl, sym, ap, ◌∙◌}
use mathlib.Core.Bool.{Bool, true, false}
use mathlib.Core.List.{List}
use mathlib.Core.Logic.{◌⊎◌, inl, inr, ⊎_elim}
use native.Mathlib.Omega.{arith}
use native.Mathlib.Decide.{ℕ_discrete}
use borrow.Author.Tests.{eq-eqb, ne_eqb}
use Rattle.words.specs.Choose.{choose}
use Rattle.words.specs.declared.Class.{Class}
use Rattle.rules.specs.declared.Piece.{Piece}
use Rattle.rules.specs.declared.Pos.{Pos}
use Rattle.rules.specs.declared.Pos.TheVariants.{Blocked, At}
use Rattle.rules.specs.Steps.{Choice}
use Rattle.std.specs.Prelude.{None, Some}
use Rattle.rules.specs.Positions.{below, lower_of}
use Rattle.rules.specs.State.{Given, State, fragments_of}
use Rattle.rules.specs.Steps.{offer, furthest, furthest_of, pos_of, fixed_active, first_start, free_until, next_use_pos, next_use_of, holder}
use Rattle.activity.specs.Fixed.{fixed_pos}
use Rattle.choice.specs.Row.{pos_in}
use Rattle.choice.specs.Holding.{FreeRow, NextRow}
use Rattle.choice.proofs.FurthestLaws.{furthest_agrees}

-- the register x that was taken is one of the n from r on, is not scratch, and has the position p
pub record Takes (pos : ℕ → Pos) (scratch r n x : ℕ) (p : Pos) : Type 0 where
  pub low : r ≤ x
  pub high : x < r + n
  pub other : x ≡ scratch → ⊥
  pub is : p ≡ pos x

takes_more : {pos : ℕ → Pos} {scratch r n x : ℕ} {p : Pos} → Takes pos scratch (suc r) n x p → Takes pos scratch r (suc n) x p
takes_more t = record { low = omega (arith, t.low); high = omega (arith, t.high); other = t.other; is = t.is }

-- the register of a choice, if any
abbrev register_of : Choice → ℕ
register_of None = 0
register_of (Some e) = e.register

-- a register that the scan gives was there from the start, or was taken on the way
scan_takes : (pos : ℕ → Pos) (scratch n r : ℕ) (best : Choice) (x : ℕ) (p : Pos) → furthest pos scratch r n best ≡ offer x p
    → (best ≡ offer x p) ⊎ Takes pos scratch r n x p
unfolding furthest
scan_takes pos scratch zero r best x p e = inl e
scan_takes pos scratch (suc n) r best x p e = go (ℕ_discrete r scratch) (λ b. scan_takes pos scratch n (suc r) b x p)
  where
    Rest : Type 0
    Rest = (b : Choice) → furthest pos scratch (suc r) n b ≡ offer x p → (b ≡ offer x p) ⊎ Takes pos scratch (suc r) n x p

    keeps : Rest → furthest pos scratch (suc r) n best ≡ offer x p → (best ≡ offer x p) ⊎ Takes pos scratch r (suc n) x p
    keeps ih f = ⊎_elim (λ a. inl a) (λ t. inr (takes_more t)) (ih best f)

    takes : Rest → (r ≡ scratch → ⊥) → furthest pos scratch (suc r) n (offer r (pos r)) ≡ offer x p → (best ≡ offer x p) ⊎ Takes pos scratch r (suc n) x p
    takes ih d f =
        ⊎_elim
        (λ a.
        let k : r ≡ x = ap register_of a in
        let l : pos r ≡ p = ap pos_of a in
        inr record { low = omega arith; high = omega arith; other = λ q. d (k ∙ q); is = sym l ∙ ap pos k })
        (λ t. inr (takes_more t))
        (ih (offer r (pos r)) f)

    on : Rest → (r ≡ scratch → ⊥) → (b : Bool) → furthest pos scratch (suc r) n (choose b (offer r (pos r)) best) ≡ offer x p → (best ≡ offer x p) ⊎ Takes pos scratch r (suc n) x p
    on ih d true f = takes ih d f
    on ih d false f = keeps ih f

    go : Dec (r ≡ scratch) → Rest → (best ≡ offer x p) ⊎ Takes pos scratch r (suc n) x p
    go (yes q) ih = keeps ih (simp (eq-eqb r scratch q) at e)
    go (no d) ih = on ih d (below (pos_of best) (pos r)) (simp (ne_eqb r scratch d) at e)

-- the furthest register, if any, is one of the class, not scratch, and has its position
pub furthest_takes : (pos : ℕ → Pos) (scratch first count x : ℕ) (p : Pos) → furthest pos scratch first count None ≡ offer x p → Takes pos scratch first count x p
furthest_takes pos scratch first count x p e =
    ⊎_elim (λ a. absurd (let z : ◌≡◌ {A = ℕ} 0 1 = cc in omega arith)) (λ t. t) (scan_takes pos scratch count first None x p e)

module _ (g : Given) (c : Class) (rs fs : List ℕ) (s : State) (q : Piece) (row : List Pos) (o : Choice) (e : g.tables.registers ≡ rs) (f : g.tables.fragments ≡ fs)
    (h : o ≡ furthest (pos_in row) c.scratch c.first c.count None) where
  -- 2. the furthest of the free-until row is what rules take
  pub free_choice : FreeRow rs fs s q c.first c.count row → o ≡ furthest_of c (free_until g s q)
  free_choice w = h ∙ furthest_agrees (pos_in row) (free_until g s q) c.scratch c.count c.first None (λ k a l d. w.is g e f k a l)

  -- 4. and of the next-use row
  pub next_choice : (ms : List ℕ) → g.tables.mentions ≡ ms → NextRow rs fs ms s q c.first c.count row → o ≡ furthest_of c (next_use_pos g s q)
  next_choice ms m w = h ∙ furthest_agrees (pos_in row) (next_use_pos g s q) c.scratch c.count c.first None (λ k a l d. w.is g e f m k a l)

-- 4. a register whose next-use position is above a point is not fixed-active: its block position is its first fragment start
pub block_start : (g : Given) (s : State) (q : Piece) (r f : ℕ) → below (At f) (next_use_pos g s q r) ≡ true
    → fixed_pos q.start q.end (fragments_of g r) ≡ first_start q.start q.end (fragments_of g r)
unfolding next_use_pos fixed_pos
block_start g s q r f h = go (fixed_active q.start (fragments_of g r)) h
  where
    u : Pos
    u = lower_of (next_use_of g s q.start (holder s r)) (first_start q.start q.end (fragments_of g r))

    go : (b : Bool) → below (At f) (choose b Blocked u) ≡ true
        → choose b Blocked (first_start q.start q.end (fragments_of g r)) ≡ first_start q.start q.end (fragments_of g r)
    go true k = absurd (let z : ◌≡◌ {A = ℕ} 0 1 = cc in omega arith)
    go false k = refl
