-- `tables::walk::first_found` meets its contract: what is found from the start is what is found from here on.
-- Assumes nothing.
use Rattle.std.proofs.Common.{◌≡◌, ℕ, ◌-◌, ◌<◌, ◌≤◌, Option}
use Rattle.rules.specs.Sound.{first}
use Rattle.tables.proofs.walk.first_found.Given as goal

abbrev pub invariant-loop-k : goal.invariant-loop-k
invariant-loop-k g l =
    (f : ℕ → Option ℕ) → ((k : ℕ) (r : Option ℕ) → l.fn.indices.start ≤ k → k < l.fn.indices.end → goal.F-post g l.find k r → r ≡ f k)
    → first f l.fn.indices.start (l.fn.indices.end - l.fn.indices.start) ≡ first f l.k (l.fn.indices.end - l.k)
