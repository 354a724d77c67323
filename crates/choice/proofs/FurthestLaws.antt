-- The furthest register of a row. Assumes nothing.
use Rattle.std.specs.Prelude.{min}
use Prim.Native.Nat.{ℕ, zero, suc, ◌+◌, ◌-◌, ◌≤◌, ◌<◌}
use mathlib.Core.Path.{◌≡◌, refl, sym, ◌∙◌}
use mathlib.Core.Bool.{Bool, true, false}
use mathlib.Core.List.{List}
use native.Mathlib.Omega.{arith}
use native.Mathlib.Numerals.{add-one}
use native.Mathlib.Decide.{dec_le, ℕ_discrete}
use borrow.Author.Tests.{le-ltb, eq-eqb, ne_eqb}
use Rattle.words.specs.Choose.{choose}
use Rattle.words.proofs.Fold.{one_less, none_left}
use Rattle.rules.specs.declared.Pos.{Pos}
use Rattle.rules.specs.declared.Pos.TheVariants.{Blocked, At, Never}
use Rattle.rules.specs.Steps.{Choice}
use Rattle.std.specs.Prelude.{None}
use Rattle.rules.specs.Positions.{below}
use Rattle.rules.specs.Steps.{offer, furthest, pos_of}
use Rattle.choice.specs.Row.{pos_in, better, is_never}

-- positions that agree on the registers other than scratch have the same furthest
pub furthest_agrees : (pos pos' : ℕ → Pos) (scratch n r : ℕ) (best : Choice)
    → ((k : ℕ) → r ≤ k → k < r + n → (k ≡ scratch → ⊥) → pos k ≡ pos' k)
    → furthest pos scratch r n best ≡ furthest pos' scratch r n best
unfolding furthest
furthest_agrees pos pos' scratch zero r best h = refl
furthest_agrees pos pos' scratch (suc n) r best h = go (ℕ_discrete r scratch) (λ b. furthest_agrees pos pos' scratch n (suc r) b (λ k a l. h k (omega arith) (omega arith)))
  where
    go : Dec (r ≡ scratch) → ((b : Choice) → furthest pos scratch (suc r) n b ≡ furthest pos' scratch (suc r) n b) → furthest pos scratch r (suc n) best ≡ furthest pos' scratch r (suc n) best
    go (yes e) ih = simp (eq-eqb r scratch e) (ih best)
    go (no d) ih = simp (h r (omega arith) (omega arith) d) (ih _)

-- no position lies above itself
below_same : (p : Pos) → below p p ≡ false
below_same Blocked = refl
below_same (At x) = let h : x ≤ x = omega arith in le-ltb x x h
below_same Never = refl

-- a register weighed twice is weighed once
better_twice : (scratch : ℕ) (best : Choice) (r : ℕ) (p : Pos) → better scratch (better scratch best r p) r p ≡ better scratch best r p
unfolding better
better_twice scratch best r p = go (ℕ_discrete r scratch)
  where
    at : (b : Bool) → below (pos_of best) p ≡ b → choose (below (pos_of (choose b (offer r p) best)) p) (offer r p) (choose b (offer r p) best) ≡ choose b (offer r p) best
    at true e = simp (below_same p)
    at false e = simp e

    go : Dec (r ≡ scratch) → better scratch (better scratch best r p) r p ≡ better scratch best r p
    go (yes e) = simp (eq-eqb r scratch e)
    go (no d) = simp (ne_eqb r scratch d) (at (below (pos_of best) p) refl)

-- nothing lies above never
furthest_never : (pos : ℕ → Pos) (scratch n r : ℕ) (best : Choice) → pos_of best ≡ Never → furthest pos scratch r n best ≡ best
unfolding furthest
furthest_never pos scratch zero r best h = refl
furthest_never pos scratch (suc n) r best h = go (ℕ_discrete r scratch) (furthest_never pos scratch n (suc r) best h)
  where
    go : Dec (r ≡ scratch) → furthest pos scratch (suc r) n best ≡ best → furthest pos scratch r (suc n) best ≡ best
    go (yes e) ih = simp (eq-eqb r scratch e) ih
    go (no d) ih = simp (ne_eqb r scratch d, h) ih

-- the registers before r are weighed; where these are all, the last may be weighed again
pub record Weighed (pos : ℕ → Pos) (scratch stop : ℕ) (whole : Choice) (r : ℕ) (best : Choice) : Type 0 where
  pub is : furthest pos scratch r (stop - r) best ≡ whole
  pub last : stop ≤ r → better scratch best (stop - 1) (pos (stop - 1)) ≡ best

module _ (pos : ℕ → Pos) (scratch stop r : ℕ) (best : Choice) where
  one_more : r < stop → furthest pos scratch r (stop - r) best ≡ furthest pos scratch (r + 1) (stop - (r + 1)) (better scratch best r (pos r))
  unfolding furthest better
  one_more h = rw (one_less r stop h, add-one r)

  no_more : stop ≤ r → furthest pos scratch r (stop - r) best ≡ best
  unfolding furthest
  no_more h = rw (none_left r stop h)

  pub weighed_first : (whole : Choice) → r < stop → furthest pos scratch r (stop - r) best ≡ whole → Weighed pos scratch stop whole (r + 1) (better scratch best r (pos r))
  weighed_first whole h w = record { is = sym (one_more h) ∙ w; last = λ l. let e : stop - 1 ≡ r = omega arith in rw e (better_twice scratch best r (pos r)) }

-- one register more, or the last again
pub weighed_next : {pos : ℕ → Pos} {scratch stop r : ℕ} {whole best : Choice} → Weighed pos scratch stop whole r best
    → (a : ℕ) → a ≡ min r (stop - 1) → (s : ℕ) → s ≡ r + 1 → Weighed pos scratch stop whole s (better scratch best a (pos a))
weighed_next {pos} {scratch} {stop} {r} {whole} {best} w a e s f = rw f (go (dec_le stop r))
  where
    inside : r < stop → a ≡ r
    inside h = omega arith

    again : stop ≤ r → better scratch best a (pos a) ≡ best
    again l = let g : a ≡ stop - 1 = omega arith in rw g (w.last l)

    past : stop ≤ r → Weighed pos scratch stop whole (r + 1) best
    past l = let k : stop ≤ r + 1 = omega arith in
        record { is = no_more pos scratch stop (r + 1) best k ∙ sym (no_more pos scratch stop r best l) ∙ w.is; last = λ _. w.last l }

    go : Dec (stop ≤ r) → Weighed pos scratch stop whole (r + 1) (better scratch best a (pos a))
    go (yes l) = rw (again l) (past l)
    go (no d) = let h : r < stop = omega arith in rw (inside h) (weighed_first pos scratch stop r best whole h w.is)

-- what is left of the scan from r on, with the best so far, is the whole scan
pub record Scanned (row : List Pos) (scratch first count stop r : ℕ) (best : Choice) : Type 0 where
  pub is : furthest (pos_in row) scratch r (stop - r) best ≡ furthest (pos_in row) scratch first count None

module _ {row : List Pos} {scratch first count stop r : ℕ} {best : Choice} (s : Scanned row scratch first count stop r best) where
  pub scanned_ends : stop ≤ r → best ≡ furthest (pos_in row) scratch first count None
  scanned_ends h = sym (no_more (pos_in row) scratch stop r best h) ∙ s.is

  pub scanned_never : (t : Bool) → t ≡ is_never (pos_of best) → t ≡ true → best ≡ furthest (pos_in row) scratch first count None
  scanned_never t e f = sym (furthest_never (pos_in row) scratch (stop - r) r best (is_never_lem (pos_of best) (sym e ∙ f))) ∙ s.is
    where
      is_never_lem : (p : Pos) → is_never p ≡ true → p ≡ Never
      is_never_lem Blocked h = absurd (let z : ◌≡◌ {A = ℕ} 0 1 = cc in omega arith)
      is_never_lem (At x) h = absurd (let z : ◌≡◌ {A = ℕ} 0 1 = cc in omega arith)
      is_never_lem Never h = refl
