-- Document 01, "The assigner's steps": step 5, in the parts that the functions do. Each is a part of `handle_safepoints` of `rules`.
use Rattle.std.specs.Prelude.{ℕ, Bool, ◌&&◌, List}
use Rattle.words.specs.Packed.{interval_at}
use Rattle.words.specs.Points.{def_point}
use Rattle.rules.specs.declared.Piece.{Piece}
use Rattle.rules.specs.State.{Given, State, Outcome, goes, go_on, piece, points_of, safepoints_of}
use Rattle.rules.specs.Slots.{spill}
use Rattle.rules.specs.Split.{split_if_any}
use Rattle.rules.specs.Steps.{in_register, keep_or_spill, first_safepoint}
use Rattle.rules.specs.Uses.{next_use, last_use}

-- 5. "A reference piece in a register"
abbrev pub looking : List ℕ → Piece → Bool
looking is q = in_register q.place && (interval_at is q.interval).reference

-- 5. None: "split at the next use, if any, queue it, spill the piece"; the next use from p
abbrev pub spill_to_next : Given → State → ℕ → ℕ → Outcome
spill_to_next g s k p = go_on (split_if_any g s k (next_use p (points_of g (piece s k)))) (λ t. goes (spill g t k))

-- 5. what is done at safepoint x
abbrev pub at_safepoint : Given → State → ℕ → ℕ → Outcome
at_safepoint g s k x = keep_or_spill g s k x (last_use (def_point x) (points_of g (piece s k)))

-- 5. "looks at its first safepoint s"
abbrev pub at_first : Given → State → ℕ → Outcome
at_first g s k = first_safepoint g s k (safepoints_of g (piece s k))
