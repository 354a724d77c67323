-- Facts for contracts: the tables of a call, by its words.
use Rattle.std.specs.Prelude.{ℕ, List}
use Rattle.rules.specs.Tables.{Tables}

-- the tables of a call
abbrev pub tables : ℕ → List ℕ → List ℕ → List ℕ → List ℕ → List ℕ → List ℕ → Tables
tables n cs rs fs is ms ss = record { instructions = n; classes = cs; registers = rs; fragments = fs; intervals = is; mentions = ms; safepoints = ss }
