-- The halves of a split, and that they keep to their interval.
-- Assumes nothing.
use Prim.Native.Nat.{ℕ}
use Rattle.rules.specs.declared.Piece.{Piece}
use Rattle.rules.specs.declared.Place.{Place}
use Rattle.rules.specs.Tables.{Tables}
use Rattle.rules.specs.Accepted.{Accepted, interval}
use Rattle.rules.specs.State.{with_place}
use Rattle.rules.specs.Split.{parent, child}
use Rattle.uses.specs.Runs.{Orderly, Owned}
use Rattle.uses.specs.Mentions.{stays_below}
use Rattle.uses.specs.Safepoints.{use_below}
use Rattle.uses.proofs.RunLaws.{rising_of, ascending_of, sub_first, sub_rest, staying_most}

-- on accepted tables the runs of a piece that keeps to its interval are in order
pub orderly_of : (T : Tables) (q : Piece) → Accepted T → Owned T q → Orderly q T.mentions T.safepoints
orderly_of T q a o = record { mentions = rising_of T a q.interval o.known q.mentions o.mentions; safepoints = ascending_of T a q.interval o.known q.safepoints o.safepoints }

-- both halves keep to the interval, and so does a piece put into a place
module _ (T : Tables) (q : Piece) (o : Owned T q) where
  pub parent_owned : (p : ℕ) → Owned T (parent T.mentions T.safepoints q p)
  parent_owned p =
      record {
        known = o.known;
        mentions = sub_first _ q.mentions (interval T q.interval).mentions (staying_most (stays_below p) q.mentions T.mentions) o.mentions;
        safepoints = sub_first _ q.safepoints (interval T q.interval).safepoints (staying_most (use_below p) q.safepoints T.safepoints) o.safepoints;
      }

  pub child_owned : (p : ℕ) → Owned T (child T.mentions T.safepoints q p)
  child_owned p =
      record {
        known = o.known;
        mentions = sub_rest _ q.mentions (interval T q.interval).mentions (staying_most (stays_below p) q.mentions T.mentions) o.mentions;
        safepoints = sub_rest _ q.safepoints (interval T q.interval).safepoints (staying_most (use_below p) q.safepoints T.safepoints) o.safepoints;
      }

  pub placed_owned : (w : Place) → Owned T (with_place w q)
  placed_owned w = record { known = o.known; mentions = o.mentions; safepoints = o.safepoints }
