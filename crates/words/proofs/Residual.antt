-- A `?` passes a refusal on as it is.
-- Assumes nothing.
use Rattle.std.specs.Prelude.{◌≡◌, Result, Err, IsErrAnd}
use Rattle.std.proofs.Common.{◌∙◌, ap}
use Rattle.std.proofs.lemmas.Result.{err_from_is_err_and}

-- what a `?` returns is the refusal e
pub passed : {T E : Type 0} (r : Result T E) (e : E) → IsErrAnd r (λ y. y ≡ e) → r ≡ Err e
passed r e i = let p = err_from_is_err_and r i in p.1 ∙ ap Err p.2

-- .. and so what that is equal to
pub passed_on : {T E : Type 0} (r z : Result T E) (e : E) → IsErrAnd r (λ y. y ≡ e) → Err e ≡ z → r ≡ z
passed_on r z e i f = passed r e i ∙ f
