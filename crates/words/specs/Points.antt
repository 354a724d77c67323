-- Document 01, "Points and packed words": points.
use Rattle.std.specs.Prelude.{ℕ, zero, suc, ◌+◌, ◌*◌, ◌/◌, ◌%◌, Bool, ◌&&◌, leb, eqb, Option, None, Some}

-- Instruction i has Use point 2i
abbrev pub use_point : ℕ → ℕ
use_point i = 2 * i

-- and Def point 2i+1.
abbrev pub def_point : ℕ → ℕ
def_point i = 2 * i + 1

-- next plus 1;
abbrev pub next : ℕ → ℕ
next p = p + 1

-- Previous is minus 1; point 0 has no previous.
abbrev pub previous : ℕ → Option ℕ
previous zero = None
previous (suc p) = Some p

abbrev pub previous_of : Option ℕ → Option ℕ
previous_of None = None
previous_of (Some p) = previous p

-- the instruction of a point
abbrev pub instruction_of : ℕ → ℕ
instruction_of p = p / 2

-- p is a Use point
abbrev pub is_use : ℕ → Bool
is_use p = eqb (p % 2) 0

-- p is in a..e, both ends included
abbrev pub within : ℕ → ℕ → ℕ → Bool
within a e p = leb a p && leb p e
