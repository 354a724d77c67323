-- Rule 7: the first safepoint of a record is the one that the search finds, and the mention there too.
-- Assumes nothing.
use Prim.Native.Nat.{ℕ, ◌+◌, ◌*◌, ◌/◌, ◌%◌, ◌^◌, ◌<◌, ◌≤◌}
use mathlib.Core.List.{List}
use mathlib.Core.Path.{◌≡◌, refl, sym, ◌∙◌, ap}
use mathlib.Core.Bool.{Bool, true, false, ◌||◌}
use mathlib.Core.Logic.{inl, inr}
use native.Mathlib.Omega.{arith}
use native.Mathlib.Decide.{dec_lt}
use lib.Dec.{eqb}
use lib.ListN.{get_or}
use lib.Pow.{shr_mod}
use Rattle.words.specs.declared.Mention.{Mention}
use Rattle.words.specs.Packed.{mention_in}
use Rattle.rules.specs.Uses.{at_def}
use Rattle.seek.specs.Seek.{Rising, Lower}
use Rattle.checker_rules.specs.Says.{Says}
use Rattle.checker_rules.specs.Housed.{instruction_in, Point, Row}
use Rattle.checker_rules.specs.Safe.{Defined, First, SafeIn}
use Rattle.checker_rules.proofs.SaysLaws.{clashes, says_true, says_eq}

-- Def s is a point of w: w is at s, and a mod or a def
is_at : (w s : ℕ) → Point w (2 * s + 1) → (instruction_in w ≡ s) × (at_def (mention_in w) ≡ true)
is_at w s (inl a) = absurd (let bot : ⊥ = omega (arith, a.0) in bot)
is_at w s (inr a) = (omega (arith, a.0), a.1)

module _ (ms : List ℕ) (lo hi s x m to : ℕ) (r : Row ms lo hi) (ex : x ≡ s * 131072) (et : to ≡ hi) (lt : Lower ms lo to x m) where
  l : Lower ms lo hi x m
  l = rw et at lt

  -- the mention that defines at s is at m
  at_m : (d : Defined ms lo hi s) → m ≤ d.by
  at_m d = go (dec_lt d.by m)
    where
      go : Dec (d.by < m) → m ≤ d.by
      go (yes a) = let b : get_or ms d.by 0 < x = l.below d.by d.from a in omega (arith, (is_at (get_or ms d.by 0) s d.point).0)
      go (no a) = omega arith

  module _ (o : Mention) (ht : m < to) (eo : o ≡ mention_in (get_or ms m 0)) where
    h : m < hi
    h = omega arith

    -- it is m, since later ones are at later instructions
    same : (d : Defined ms lo hi s) → (o.instruction ≡ s) × (o.mods || o.defs ≡ true)
    same d = go (dec_lt m d.by)
      where
        up : s ≤ instruction_in (get_or ms m 0)
        up = let a : x ≤ get_or ms m 0 = l.above m (omega arith) h in
            let b : get_or ms m 0 / 2 ^ 17 % 2 ^ 15 ≡ get_or ms m 0 / 2 ^ 17 = shr_mod 15 17 (r.small m) in
            omega arith

        go : Dec (m < d.by) → (o.instruction ≡ s) × (o.mods || o.defs ≡ true)
        go (yes a) =
            let b : instruction_in (get_or ms m 0) < instruction_in (get_or ms d.by 0) = r.insts m d.by l.from a d.to in
            absurd (let bot : ⊥ = omega (arith, up, (is_at (get_or ms d.by 0) s d.point).0) in bot)
        go (no a) =
            let e : d.by ≡ m = omega (arith, at_m d) in
            let q : Point (get_or ms m 0) (2 * s + 1) = rw e at d.point in
            rw eo (is_at (get_or ms m 0) s q)

    pub def_other : (o.instruction ≡ s → ⊥) → Says (eqb o.instruction s) (Defined ms lo hi s)
    def_other ne = says_eq o.instruction s (λ e. absurd (ne e)) (λ n d. n (same d).0)

    here : o.instruction ≡ s → o.mods || o.defs ≡ true → Defined ms lo hi s
    here e f = record { by = m; from = l.from; to = h; point = inr (omega (arith, e, ap (λ (o : Mention). o.instruction) eo), rw eo at f) }

    -- neither use nor mod: what is left says it
    pub def_is : o.instruction ≡ s → o.mods ≡ false → Says o.defs (Defined ms lo hi s)
    def_is e f =
        record {
          holds = λ t. here e (yes_def o.mods o.defs t);
          fails = λ t d. clashes (sym t ∙ no_mod o.mods o.defs f (same d).1);
        }
      where
        yes_def : (a b : Bool) → b ≡ true → a || b ≡ true
        yes_def true b f = refl
        yes_def false b f = f

        no_mod : (a b : Bool) → a ≡ false → a || b ≡ true → b ≡ true
        no_mod true b f g = clashes (sym f)
        no_mod false b f g = g

-- the first safepoint whose Use is not below the first point is at j
module _ (ss : List ℕ) (sl sh : ℕ) (ms : List ℕ) (ml mh first last x j to : ℕ) (up : Rising ss sl sh) (ex : x ≡ (first + 1) / 2) (et : to ≡ sh) (lt : Lower ss sl to x j) where
  found : Lower ss sl sh x j
  found = rw et at lt

  from_j : (i : ℕ) → First ss sl sh first last i → j ≤ i
  from_j i f = go (dec_lt i j)
    where
      go : Dec (i < j) → j ≤ i
      go (yes a) = let b : get_or ss i 0 < x = found.below i f.from a in omega (arith, f.after)
      go (no a) = omega arith

  module _ (s d : ℕ) (ht : j < to) (es : s ≡ get_or ss j 0) (ed : d ≡ s * 2) where
    inside : j < sh
    inside = omega arith

    starts : first ≤ 2 * get_or ss j 0
    starts = let a : x ≤ get_or ss j 0 = found.above j (omega arith) inside in omega arith

    only : (i : ℕ) → First ss sl sh first last i → i ≡ j
    only i f = go (dec_lt j i)
      where
        go : Dec (j < i) → i ≡ j
        go (yes a) = absurd (f.none j found.from a starts (omega (arith, up.up j i found.from a f.to, f.before)))
        go (no a) = omega (arith, from_j i f)

    pub safe_past : last < d → Says true (SafeIn ss sl sh ms ml mh first last)
    safe_past a = says_true record { each = λ i f. absurd (let q : 2 * get_or ss j 0 ≤ last = rw (only i f) at f.before in let bot : ⊥ = omega arith in bot) }
