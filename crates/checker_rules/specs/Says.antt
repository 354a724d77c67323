-- A fact for contracts: what a test's answer says.
use Rattle.std.specs.Prelude.{◌≡◌, Bool, true, false}

-- the answer is true exactly if P
pub record Says (r : Bool) (P : Type 0) : Type 0 where
  pub holds : r ≡ true → P
  pub fails : r ≡ false → P → ⊥
