-- Document 01, "Points and packed words": positions of registers.
use Rattle.std.specs.Prelude.{Bool, true, false, ltb, leb}
use Rattle.words.specs.Choose.{choose}
use Rattle.rules.specs.declared.Pos.{Pos}
use Rattle.rules.specs.declared.Pos.TheVariants.{Blocked, At, Never}

-- "Blocked" lies below every point and "never" above; neither is a point: a is below b
abbrev pub below : Pos → Pos → Bool
below Blocked Blocked = false
below Blocked (At y) = true
below Blocked Never = true
below (At x) Blocked = false
below (At x) (At y) = ltb x y
below (At x) Never = true
below Never b = false

-- the lower of two positions
abbrev pub lower_of : Pos → Pos → Pos
lower_of Blocked b = Blocked
lower_of (At x) Blocked = Blocked
lower_of (At x) (At y) = choose (leb x y) (At x) (At y)
lower_of (At x) Never = At x
lower_of Never b = b
