-- `rule1::starts` meets its contract: the intervals passed have their start.
-- Assumes nothing.
use Rattle.std.proofs.Common.{◌≡◌, ℕ, ◌<◌, get_or}
use Rattle.checker_rules.specs.Entries.{start_of}
use Rattle.checker_rules.proofs.rule1.starts.Given as goal

abbrev pub invariant-loop-v : goal.invariant-loop-v
invariant-loop-v l = (u : ℕ) → u < l.v → get_or l.expect u 0 ≡ start_of l.intervals u
