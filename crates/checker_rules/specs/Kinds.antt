-- The kinds of a record's place, and that what says so has one proof at most, since no kind is two of them: a struct may keep it.
use Rattle.std.specs.Prelude.{ℕ, ◌≡◌, ◌⊎◌}
use mathlib.Core.Path.{sym, ◌∙◌, ap}
use mathlib.Core.Logic.{inl, inr}
use native.Mathlib.Nat.{ℕ_set, suc-ne-zero, suc_inj}

-- a register record or a slot record
abbrev pub Known : ℕ → Type 0
Known k = (k ≡ 1) ⊎ (k ≡ 2)

pub Known-prop : (k : ℕ) → IsProp (Known k)
Known-prop k (inl a) (inl b) = ap inl (ℕ_set k 1 a b)
Known-prop k (inl a) (inr b) = absurd (suc-ne-zero 0 (suc_inj (sym b ∙ a)))
Known-prop k (inr a) (inl b) = absurd (suc-ne-zero 0 (suc_inj (sym a ∙ b)))
Known-prop k (inr a) (inr b) = ap inr (ℕ_set k 2 a b)
