-- Rule 5: of the fragments that start at a record's last point or before, the last is the one that reaches furthest.
-- Assumes nothing.
use Prim.Native.Nat.{ℕ, ◌+◌, ◌-◌, ◌*◌, ◌/◌, ◌^◌, ◌<◌, ◌≤◌}
use mathlib.Core.List.{List}
use mathlib.Core.Path.{◌≡◌, ap}
use native.Mathlib.Omega.{arith}
use native.Mathlib.Decide.{dec_lt}
use lib.Dec.{leb}
use lib.ListN.{get_or}
use lib.Pow.{shr_mod}
use Rattle.words.specs.declared.Fragment.{Fragment}
use Rattle.words.specs.Packed.{fragment_in}
use Rattle.seek.specs.Seek.{Lower}
use Rattle.checker_rules.specs.Says.{Says}
use Rattle.checker_rules.specs.Fixed.{first_point, last_point, Run, Meets}
use Rattle.checker_rules.proofs.SaysLaws.{says_le}

-- a fragment's first point is the upper half of its word
upper_half : (w : ℕ) → w < 2 ^ 32 → (fragment_in w).first ≡ w / 2 ^ 16
upper_half w h = shr_mod 16 16 h

module _ (fs : List ℕ) (lo hi first last x j to : ℕ) (r : Run fs lo hi) (ex : x ≡ (last + 1) * 65536) (et : to ≡ hi) (lt : Lower fs lo to x j) where
  l : Lower fs lo hi x j
  l = rw et at lt

  -- a fragment that meets the points lies before j
  before : (m : Meets fs lo hi first last) → m.by < j
  before m = go (dec_lt m.by j)
    where
      go : Dec (m.by < j) → m.by < j
      go (yes h) = h
      go (no h) = let a : x ≤ get_or fs m.by 0 = l.above m.by (omega arith) m.to in omega (arith, m.starts, m.before, upper_half _ (r.small m.by))

  module _ (i : ℕ) (f : Fragment) (ei : i ≡ j - 1) (g : lo < j) (ef : f ≡ fragment_in (get_or fs i 0)) where
    reach : f.last ≡ last_point fs i
    reach = ap (λ (f : Fragment). f.last) ef

    -- the last that does ends before the record
    meets_not : f.last < first → Meets fs lo hi first last → ⊥
    meets_not h m = go (dec_lt m.by i)
      where
        go : Dec (m.by < i) → ⊥
        go (yes a) =
            let b : last_point fs m.by < first_point fs i = r.apart m.by i m.from a (omega (arith, l.to)) in
            let c : first_point fs i ≤ last_point fs i = r.whole i (omega arith) (omega (arith, l.to)) in
            omega (arith, m.ends, m.after, reach)
        go (no a) =
            let b : m.by ≡ i = omega (arith, before m) in
            let c : m.point ≤ last_point fs i = rw b at m.ends in
            omega (arith, m.after, reach)

    -- or it does not
    meets_does : first ≤ f.last → first ≤ last → Meets fs lo hi first last
    meets_does h o = go (dec_lt first (first_point fs i))
      where
        begins : first_point fs i ≤ last
        begins = let a : get_or fs i 0 < x = l.below i (omega arith) (omega arith) in omega arith

        whole : first_point fs i ≤ last_point fs i
        whole = r.whole i (omega arith) (omega (arith, l.to))

        go : Dec (first < first_point fs i) → Meets fs lo hi first last
        go (yes a) =
            record { by = i; from = omega arith; to = omega (arith, l.to); point = first_point fs i; after = omega arith; before = begins; starts = omega arith; ends = whole }
        go (no a) =
            record { by = i; from = omega arith; to = omega (arith, l.to); point = first; after = omega arith; before = o; starts = omega arith; ends = omega (arith, reach) }

    pub meets_last : first ≤ last → Says (leb first f.last) (Meets fs lo hi first last)
    meets_last o = says_le first f.last (λ h. meets_does h o) meets_not
