-- Facts for contracts: the halves of a split, by how much stays.
use Rattle.std.specs.Prelude.{ℕ, ◌-◌, ◌≡◌, List}
use Rattle.rules.specs.declared.Piece.{Piece}
use Rattle.rules.specs.declared.Place.TheVariants.{Nowhere}
use Rattle.rules.specs.Split.{first_of, rest_of, parent, child}
use Rattle.uses.specs.declared.Halves.{Halves}

-- the parent and the child of a split at p at which m mentions and s safepoints stay
abbrev pub parent_by : Piece → ℕ → ℕ → ℕ → Piece
parent_by q p m s = record { interval = q.interval; place = q.place; start = q.start; end = p - 1; mentions = first_of m q.mentions; safepoints = first_of s q.safepoints }

abbrev pub child_by : Piece → ℕ → ℕ → ℕ → Piece
child_by q p m s = record { interval = q.interval; place = Nowhere; start = p; end = q.end; mentions = rest_of m q.mentions; safepoints = rest_of s q.safepoints }

-- both halves are those of the rules
pub record Cut (ms ss : List ℕ) (q : Piece) (p : ℕ) (h : Halves) : Type 0 where
  pub parent : h.parent ≡ parent ms ss q p
  pub child : h.child ≡ child ms ss q p
