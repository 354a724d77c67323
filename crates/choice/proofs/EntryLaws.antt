-- The scan for the furthest register over a slice of entries, and that four entries are four registers of the row. Assumes nothing.
use Prim.Native.Nat.{ℕ, ◌+◌, ◌-◌, ◌≤◌, ◌<◌}
use mathlib.Core.Path.{◌≡◌, refl, sym, ◌∙◌}
use mathlib.Core.Bool.{Bool, true}
use mathlib.Core.List.{List, [], ◌∷◌}
use native.Mathlib.Omega.{arith}
use native.Mathlib.Numerals.{add-one}
use lib.ListN.{get_or}
use Rattle.words.proofs.Fold.{one_less, none_left}
use Rattle.rules.specs.declared.Pos.{Pos}
use Rattle.rules.specs.Steps.{Choice}
use Rattle.std.specs.Prelude.{None, min}
use Rattle.rules.specs.Steps.{furthest, pos_of}
use Rattle.rules.specs.declared.RegPos.{RegPos}
use Rattle.choice.specs.Row.{pos_in, better, is_never, no_entry, entry_at, furthest_entry}
use Rattle.choice.proofs.FurthestLaws.{Weighed, weighed_first, weighed_next, Scanned, scanned_never}

-- what is left of the scan from i on, with the best so far, is the whole scan
pub record Reading (es : List RegPos) (scratch count : ℕ) (start best : Choice) (i : ℕ) : Type 0 where
  pub is : furthest_entry es scratch i (count - i) best ≡ furthest_entry es scratch 0 count start

module _ {es : List RegPos} {scratch count : ℕ} {start best : Choice} {i : ℕ} (s : Reading es scratch count start best i) where
  pub reading_more : (best' : Choice) → best' ≡ better scratch best (get_or es i no_entry).register (get_or es i no_entry).pos → i < count → Reading es scratch count start best' (i + 1)
  unfolding furthest_entry
  reading_more best' e h = record { is = rw e (sym (rw (one_less i count h, add-one i)) ∙ s.is) }

  pub reading_ends : count ≤ i → best ≡ furthest_entry es scratch 0 count start
  unfolding furthest_entry
  reading_ends h = sym (rw (none_left i count h) refl) ∙ s.is

-- four entries: of the register r and of the three after it, or of the last where there are none
module _ (row : List Pos) (scratch first count stop r : ℕ) (best : Choice) (s : Scanned row scratch first count stop r best) (h : r < stop)
    (r1 r2 r3 : ℕ) (e1 : r1 ≡ min (r + 1) (stop - 1)) (e2 : r2 ≡ min (r + 2) (stop - 1)) (e3 : r3 ≡ min (r + 3) (stop - 1))
    (x0 x1 x2 x3 : RegPos) (f0 : x0 ≡ entry_at row r) (f1 : x1 ≡ entry_at row r1) (f2 : x2 ≡ entry_at row r2) (f3 : x3 ≡ entry_at row r3)
    (best' : Choice) (e : best' ≡ furthest_entry (x0 ∷ x1 ∷ x2 ∷ x3 ∷ []) scratch 0 4 best) where
  -- they take the scan over the row four registers on
  pub scanned_more : Scanned row scratch first count stop (r + 4) best'
  unfolding furthest_entry
  scanned_more =
      let w : Weighed (pos_in row) scratch stop (furthest (pos_in row) scratch first count None) (r + 1) (better scratch best r (pos_in row r)) = weighed_first (pos_in row) scratch stop r best _ h s.is in
      record { is = rw (e, f0, f1, f2, f3) (weighed_next (weighed_next (weighed_next w r1 e1 (r + 2) (omega arith)) r2 e2 (r + 3) (omega arith)) r3 e3 (r + 4) (omega arith)).is }

  -- and where the best is never
  pub scanned_stops : (t : Bool) → t ≡ is_never (pos_of best') → t ≡ true → best' ≡ furthest (pos_in row) scratch first count None
  scanned_stops t f g = scanned_never scanned_more t f g
