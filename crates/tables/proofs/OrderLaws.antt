-- Laws of the checks in order: what the earlier checks give to the later.
-- Assumes nothing.
use Rattle.std.specs.Prelude.{ℕ, Option, None}
use mathlib.Core.Path.{◌≡◌, sym, ◌∙◌}
use Rattle.rules.specs.Answers.{fine, Check}
use Rattle.rules.specs.Tables.{Tables}
use Rattle.rules.specs.Sound.{check_limits, bad_interval, bad_mention}
use Rattle.rules.specs.Accepted.{Limits}
use Rattle.rules.proofs.Accepted.{limits_kept, intervals_kept, mentions_kept}
use Rattle.tables.specs.Entries.{Ranged, Placed}

-- what check 3 gives,
pub limits : (T : Tables) (c : Check) → c ≡ check_limits T → c ≡ fine → Limits T
limits T c e f = limits_kept T (sym e ∙ f)

-- what check 5 gives,
pub ranged : (T : Tables) (i : Option ℕ) → i ≡ bad_interval T → i ≡ None → Ranged T
ranged T i e f = record { inside = λ v h. (intervals_kept T (sym e ∙ f) v h).mentions }

-- and checks 5 and 6
pub placed : (T : Tables) (i m : Option ℕ) → i ≡ bad_interval T → i ≡ None → m ≡ bad_mention T → m ≡ None → Placed T
placed T i m e f g h =
    record {
      mentions = λ v l. record { inside = (intervals_kept T (sym e ∙ f) v l).mentions; up = (mentions_kept T (sym g ∙ h) v l).ascending };
      safepoints = λ v l. (intervals_kept T (sym e ∙ f) v l).safepoints;
    }
