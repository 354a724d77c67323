-- The derived equality of places is the test for a register. Assumes nothing.
use Prim.Native.Nat.{ℕ}
use mathlib.Core.Path.{◌≡◌, refl}
use Rattle.rules.specs.declared.Place.{Place}
use Rattle.rules.specs.declared.Place.TheVariants.{Nowhere, Register, Slot}
use Rattle.rules.specs.Steps.{is_register}
use Rattle.rules.specs.contracts.PlacePartialEq.TheImpl.{eq-value}

-- `w == Place::Register(r)`
pub same_register : (w : Place) (r : ℕ) → eq-value.it w (Register r) ≡ is_register r w
same_register Nowhere r = refl
same_register (Register x) r = refl
same_register (Slot t) r = refl
