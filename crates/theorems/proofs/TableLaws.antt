-- Accepted tables by index: a mention's first and last point, ascending columns, where a split parts a piece's mentions and safepoints, what next use and last use find in a piece.
-- Assumes accepted tables.
use Prim.Native.Nat.{ℕ, ◌+◌, ◌-◌, ◌*◌, ◌≤◌, ◌<◌}
use mathlib.Core.Path.{◌≡◌, refl, sym, ap, ◌∙◌}
use mathlib.Core.Logic.{◌⊎◌, inl, inr, ⊎_elim}
use mathlib.Core.Bool.{Bool, true, false, ◌||◌}
use mathlib.Core.List.Memᴰ
use mathlib.Core.List.{List, [], ◌∷◌, ◌++◌, Memᴰ}
use native.Mathlib.Omega.{arith}
use borrow.Author.Tests.{ltb-true, ltb-false}
use lib.Dec.{ltb}
use lib.ListN.{length, get_or}
use Rattle.words.specs.Choose.{choose}
use Rattle.words.specs.Points.{use_point, def_point}
use Rattle.words.specs.Packed.{mention_in, part, interval_count}
use Rattle.words.specs.declared.Mention.{Mention}
use Rattle.words.specs.declared.Range.{Range}
use Rattle.rules.specs.declared.Piece.{Piece}
use Rattle.rules.specs.Tables.{Tables}
use Rattle.rules.specs.Accepted.{InRange, mention, safepoint, interval, Accepted}
use Rattle.rules.specs.Uses.{at_use, at_def, points_in, mention_points}
use Rattle.rules.specs.Split.{count_of, any_below, staying_mentions, staying_safepoints}
use Rattle.theorems.specs.Invariant.{first_point, last_point, use_at, Shape}
use Rattle.theorems.proofs.RunLaws.{Rising, CutAt}
use Rattle.rules.proofs.Counts.{count_most}
use Rattle.theorems.proofs.ListLaws.{Prefix, count_at, length_part, at_part, part_has, part_is}
use Rattle.theorems.proofs.UseLaws.{any_below_lem, none_below, points_has, points_is}

-- ---- one mention with a flag set
abbrev first_of : Mention → ℕ
first_of m = choose (at_use m) (use_point m.instruction) (def_point m.instruction)

abbrev last_of : Mention → ℕ
last_of m = choose (at_def m) (def_point m.instruction) (use_point m.instruction)

-- the points ps of a mention of instruction i are its first and its last, at most one apart; the first of two is a Use
pub record PointsOf (i : ℕ) (ps : List ℕ) (f l : ℕ) : Type 0 where
  pub is : (p : ℕ) → Memᴰ p ps → (p ≡ f) ⊎ (p ≡ l)
  pub first : Memᴰ f ps
  pub last : Memᴰ l ps
  pub up : f ≤ l
  pub near : l ≤ f + 1
  pub low : 2 * i ≤ f
  pub high : l ≤ 2 * i + 1
  pub even : f < l → f ≡ 2 * i

one : (x p : ℕ) → Memᴰ p (x ∷ []) → (p ≡ x) ⊎ (p ≡ x)
one x p (Memᴰ.head e) = inl e
one x p (Memᴰ.tail n) = absurd (Memᴰ.not-nil n)

two : (x y p : ℕ) → Memᴰ p (x ∷ y ∷ []) → (p ≡ x) ⊎ (p ≡ y)
two x y p (Memᴰ.head e) = inl e
two x y p (Memᴰ.tail (Memᴰ.head e)) = inr e
two x y p (Memᴰ.tail (Memᴰ.tail n)) = absurd (Memᴰ.not-nil n)

by_flags : (i : ℕ) (a b : Bool) (p : ℕ) → Memᴰ p (choose a (use_point i ∷ []) [] ++ choose b (def_point i ∷ []) [])
    → PointsOf i (choose a (use_point i ∷ []) [] ++ choose b (def_point i ∷ []) []) (choose a (use_point i) (def_point i)) (choose b (def_point i) (use_point i))
by_flags i true true p m = record { is = two (use_point i) (def_point i); first = Memᴰ.head refl; last = Memᴰ.tail (Memᴰ.head refl); up = omega arith; near = omega arith; low = omega arith; high = omega arith; even = λ h. refl }
by_flags i true false p m = record { is = one (use_point i); first = Memᴰ.head refl; last = Memᴰ.head refl; up = omega arith; near = omega arith; low = omega arith; high = omega arith; even = λ h. refl }
by_flags i false true p m = record { is = one (def_point i); first = Memᴰ.head refl; last = Memᴰ.head refl; up = omega arith; near = omega arith; low = omega arith; high = omega arith; even = λ h. absurd (omega arith) }
by_flags i false false p m = absurd (Memᴰ.not-nil m)

-- ---- where a test over a run's entries turns from true to false
pub cut_count : (r : Range) (ws : List ℕ) (f : ℕ → ℕ) (p : ℕ) (test : ℕ → Bool) → r.index + r.count ≤ length ws
    → ((j : ℕ) → InRange r j → test (get_or ws j 0) ≡ true → f j < p) → ((j : ℕ) → InRange r j → test (get_or ws j 0) ≡ false → p ≤ f j)
    → ((i j : ℕ) → InRange r i → InRange r j → i < j → f i ≤ f j) → CutAt f p r.index (r.index + r.count) (r.index + count_of test (part r ws))
cut_count r ws f p test h on off asc =
    let most = count_most test (part r ws) in
    record {
      low = omega arith;
      high = omega (arith, most, length_part r ws h);
      below = λ i a b. let k : i - r.index < r.count = omega (arith, most, length_part r ws h) in on i (a, omega arith) (back i (a, omega arith) true ((count_at test (part r ws) prefix (i - r.index) (omega (arith, length_part r ws h))).0 (omega arith)));
      above = λ i a b. off i (omega arith, b) (back i (omega arith, b) false ((count_at test (part r ws) prefix (i - r.index) (omega (arith, length_part r ws h))).1 (omega arith)));
    }
  where
    there : (i : ℕ) → InRange r i → get_or (part r ws) (i - r.index) 0 ≡ get_or ws i 0
    there i a = let e : r.index + (i - r.index) ≡ i = omega (arith, a.0) in at_part r ws h (i - r.index) (omega (arith, a.0, a.1)) ∙ ap (λ (j : ℕ). get_or ws j 0) e

    back : (i : ℕ) → InRange r i → (b : Bool) → test (get_or (part r ws) (i - r.index) 0) ≡ b → test (get_or ws i 0) ≡ b
    back i a b e = ap test (sym (there i a)) ∙ e

    pass : (j : ℕ) → InRange r j → f j < p → (b : Bool) → test (get_or ws j 0) ≡ b → test (get_or ws j 0) ≡ true
    pass j a l true e = e
    pass j a l false e = absurd (omega (arith, off j a e))

    prefix : Prefix test (part r ws)
    prefix i j l k e =
        let n = length_part r ws h in
        let ri : InRange r (r.index + i) = (omega arith, omega arith) in
        let rj : InRange r (r.index + j) = (omega arith, omega arith) in
        let ei : get_or (part r ws) i 0 ≡ get_or ws (r.index + i) 0 = at_part r ws h i (omega arith) in
        let ej : get_or (part r ws) j 0 ≡ get_or ws (r.index + j) 0 = at_part r ws h j (omega arith) in
        ap test ei ∙ pass (r.index + i) ri (omega (arith, on (r.index + j) rj (ap test (sym ej) ∙ e), asc (r.index + i) (r.index + j) ri rj (omega arith))) (test (get_or ws (r.index + i) 0)) refl

module _ (T : Tables) (ok : Accepted T) where
  -- ---- the columns of an interval ascend
  module _ (v : ℕ) (h : v < interval_count T.intervals) where
    pub points_at : (j : ℕ) → InRange (interval T v).mentions j → PointsOf (mention T j).instruction (points_in (mention T j)) (first_point T j) (last_point T j)
    unfolding first_point last_point
    points_at j a = let o = (ok.mentions v h).pointed j a in by_flags (mention T j).instruction (at_use (mention T j)) (at_def (mention T j)) o.0 o.1

    pub mentions_rise : Rising (first_point T) (last_point T) (interval T v).mentions.index ((interval T v).mentions.index + (interval T v).mentions.count)
    mentions_rise =
        record {
          up = λ i a b. (points_at i (a, b)).up;
          asc = λ i j a b c. omega (arith, (points_at i (a, omega arith)).high, (points_at j (omega arith, c)).low, (ok.mentions v h).ascending i j (a, omega arith) (omega arith, c) b);
        }

    pub safepoints_rise : Rising (use_at T) (use_at T) (interval T v).safepoints.index ((interval T v).safepoints.index + (interval T v).safepoints.count)
    safepoints_rise =
        record {
          up = λ i a b. omega arith;
          asc = λ i j a b c. omega (arith, (ok.safepoints v h).ascending i j (a, omega arith) (omega arith, c) b);
        }

    -- refusal 7: a mention that begins at the Use of a safepoint ends at its Def
    pub redefined : (j i : ℕ) → InRange (interval T v).safepoints j → InRange (interval T v).mentions i → first_point T i ≡ use_at T j → last_point T i ≡ def_point (safepoint T j)
    unfolding first_point last_point
    redefined j i a b e = go (mention T i).uses (mention T i).mods (mention T i).defs refl ((ok.safepoints v h).redefined j i a b) e
      where
        go : (x y z : Bool) → (mention T i).uses ≡ x → ((mention T i).instruction ≡ safepoint T j → x ≡ true → y || z ≡ true)
            → choose (x || y) (use_point (mention T i).instruction) (def_point (mention T i).instruction) ≡ use_at T j
            → choose (y || z) (def_point (mention T i).instruction) (use_point (mention T i).instruction) ≡ def_point (safepoint T j)
        go x true z d f g = let k : use_point (mention T i).instruction ≡ use_at T j = same x g in omega arith
          where
            same : (x : Bool) → choose (x || true) (use_point (mention T i).instruction) (def_point (mention T i).instruction) ≡ use_at T j → use_point (mention T i).instruction ≡ use_at T j
            same true g = g
            same false g = g
        go true false true d f g = omega arith
        go true false false d f g = let k : (mention T i).instruction ≡ safepoint T j = omega arith in let z : ◌≡◌ {A = Bool} false true = f k refl in let o : ◌≡◌ {A = ℕ} 0 1 = cc in absurd (omega arith)
        go false false z d f g = absurd (omega arith)

  -- ---- a piece
  module _ (q : Piece) (s : Shape T q) where
    own : (j : ℕ) → InRange q.mentions j → InRange (interval T q.interval).mentions j
    own j a = (omega (arith, a.0, s.ments), omega (arith, a.1, s.ments))

    pub at_points : (j : ℕ) → InRange q.mentions j → PointsOf (mention T j).instruction (points_in (mention T j)) (first_point T j) (last_point T j)
    at_points j a = points_at q.interval s.named j (own j a)

    fits : q.mentions.index + q.mentions.count ≤ length T.mentions
    fits = omega (arith, s.ments, (ok.intervals q.interval s.named).mentions)

    sfits : q.safepoints.index + q.safepoints.count ≤ length T.safepoints
    sfits = omega (arith, s.safes, (ok.intervals q.interval s.named).safepoints)

    -- its points are the first and last points of its mentions
    pub has_first : (j : ℕ) → InRange q.mentions j → Memᴰ (first_point T j) (mention_points (part q.mentions T.mentions))
    has_first j a = points_has (part q.mentions T.mentions) (part_has q.mentions T.mentions fits j a) (at_points j a).first

    pub has_last : (j : ℕ) → InRange q.mentions j → Memᴰ (last_point T j) (mention_points (part q.mentions T.mentions))
    has_last j a = points_has (part q.mentions T.mentions) (part_has q.mentions T.mentions fits j a) (at_points j a).last

    pub record Whose (x : ℕ) : Type 0 where
      pub who : ℕ
      pub inside : InRange q.mentions who
      pub is : (x ≡ first_point T who) ⊎ (x ≡ last_point T who)

    pub whose : (x : ℕ) → Memᴰ x (mention_points (part q.mentions T.mentions)) → Whose x
    whose x m =
        let a = points_is (part q.mentions T.mentions) m in
        let b = part_is q.mentions T.mentions fits a.1 in
        record { who = b.0; inside = b.1; is = (at_points b.0 b.1).is x (rw b.2 at a.2) }

    -- a mention point lies in the piece, between the points of its mention
    pub spans : (x : ℕ) (w : Whose x) → (q.start ≤ x) × (x ≤ q.end) × (first_point T w.who ≤ x) × (x ≤ last_point T w.who)
    spans x w =
        let a = s.ments.starts w.who w.inside.0 w.inside.1 in
        let b = s.ments.ends w.who w.inside.0 w.inside.1 in
        let c = (at_points w.who w.inside).up in
        ⊎_elim (λ (e : x ≡ first_point T w.who). (omega arith, omega arith, omega arith, omega arith)) (λ (e : x ≡ last_point T w.who). (omega arith, omega arith, omega arith, omega arith)) w.is

    -- a split at p parts its mentions, and its safepoints
    pub cut_mentions : (p : ℕ) → CutAt (first_point T) p q.mentions.index (q.mentions.index + q.mentions.count) (q.mentions.index + staying_mentions T.mentions T.safepoints q p)
    cut_mentions p =
        cut_count q.mentions T.mentions (first_point T) p (λ w. any_below p (points_in (mention_in w))) fits
        (λ j a e. let r = any_below_lem p (points_in (mention T j)) e in ⊎_elim (λ (o : r.0 ≡ first_point T j). omega (arith, r.2)) (λ (o : r.0 ≡ last_point T j). omega (arith, r.2, (at_points j a).up)) ((at_points j a).is r.0 r.1))
        (λ j a e. none_below p (points_in (mention T j)) e (first_point T j) (at_points j a).first)
        (λ i j a b l. omega (arith, (at_points i a).up, (mentions_rise q.interval s.named).asc i j (own i a).0 l (own j b).1))

    pub cut_safepoints : (p : ℕ) → CutAt (use_at T) p q.safepoints.index (q.safepoints.index + q.safepoints.count) (q.safepoints.index + staying_safepoints T.mentions T.safepoints q p)
    cut_safepoints p =
        cut_count q.safepoints T.safepoints (use_at T) p (λ x. ltb (use_point x) p) sfits
        (λ j a e. ltb-true (use_at T j) p e)
        (λ j a e. ltb-false (use_at T j) p e)
        (λ i j a b l. omega (arith, (safepoints_rise q.interval s.named).asc i j (omega (arith, a.0, s.safes)) l (omega (arith, b.1, s.safes))))
