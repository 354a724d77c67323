-- The derived order of positions is that of the definitions. Assumes nothing.
use mathlib.Core.Path.{◌≡◌, refl}
use native.Mathlib.Omega.{arith}
use Rattle.std.proofs.lemmas.Grind.{common_steps}
use Rattle.std.specs.Ordering.{partial_lt, ord_min}
use Rattle.rules.specs.declared.Pos.{Pos}
use Rattle.rules.specs.declared.Pos.TheVariants.{Blocked, At, Never}
use Rattle.rules.specs.Positions.{below, lower_of}
use Rattle.rules.specs.contracts.PosPartialOrd.TheImpl.{partial_cmp-value}
use Rattle.rules.specs.contracts.PosOrd.TheImpl.{cmp-value}

-- `<` is below
pub less_below : (a b : Pos) → partial_lt partial_cmp-value.it a b ≡ below a b
less_below Blocked Blocked = refl
less_below Blocked (At y) = refl
less_below Blocked Never = refl
less_below (At x) Blocked = refl
less_below (At x) (At y) = grind (arith, common_steps)
less_below (At x) Never = refl
less_below Never Blocked = refl
less_below Never (At y) = refl
less_below Never Never = refl

-- `min` is the lower
pub min_lower : (a b : Pos) → ord_min cmp-value.it a b ≡ lower_of a b
min_lower Blocked Blocked = refl
min_lower Blocked (At y) = refl
min_lower Blocked Never = refl
min_lower (At x) Blocked = refl
min_lower (At x) (At y) = grind (arith, common_steps)
min_lower (At x) Never = refl
min_lower Never Blocked = refl
min_lower Never (At y) = refl
min_lower Never Never = refl
