-- The verdict, rule by rule, and the answer that it gives.
-- Assumes nothing.
use Prim.Native.Nat.{ℕ, ◌+◌, ◌*◌, ◌<◌, ◌≤◌}
use mathlib.Core.Path.{◌≡◌, refl, sym, ◌∙◌}
use mathlib.Core.Bool.{Bool, true, false}
use borrow.Author.Tests.{lt-ltb, le-ltb}
use native.Mathlib.Omega.{arith}
use native.Mathlib.Decide.{dec_lt}
use lib.ListN.{length}
use Rattle.rules.specs.declared.Refusal.{Refusal}
use Rattle.rules.specs.declared.Refusal.TheVariants.{OverLimit}
use Rattle.rules.specs.Answers.{Answer, Check, fine}
use Rattle.rules.specs.Tables.{Tables}
use Rattle.rules.specs.Sound.{check_tables}
use Rattle.rules.specs.Placement.{Claim, Rule}
use Rattle.rules.specs.Checker.{HoldBelow, check_claim, check_all, Checks, refused, broken, accepted}
use Rattle.checker_rules.specs.Says.{Says}
use Rattle.checker_rules.specs.Decides.{Claims, Decides1, Decides2, Decides3, Decides4, Decides5, Decides6, Decides7}
use Rattle.std.proofs.Common.{Result, Ok, Err}
use Rattle.checker.specs.declared.Broken.{Broken}
use Rattle.checker.specs.Verdict.{BrokenAt, Judges, answer_of}

module _ (T : Tables) (c : Claim) where
  -- each rule's test, of these tables and this claim
  here : Claims c.words c.count c
  here = record { words = refl; count = refl }

  says_1 : (b : Bool) → Decides1 c.words c.count T.intervals b → Says b (Rule T c 1)
  says_1 b d = d.says T c here refl

  says_2 : (b : Bool) → Decides2 c.words c.count T.intervals T.mentions b → Says b (Rule T c 2)
  says_2 b d = d.says T c here refl refl

  says_3 : (b : Bool) → Decides3 c.words c.count T.intervals T.classes b → Says b (Rule T c 3)
  says_3 b d = d.says T c here refl refl

  says_4 : (b : Bool) → Decides4 c.words c.count b → Says b (Rule T c 4)
  says_4 b d = d.says T c here

  says_5 : (b : Bool) → Decides5 c.words c.count T.registers T.fragments b → Says b (Rule T c 5)
  says_5 b d = d.says T c here refl refl

  says_6 : (b : Bool) → Decides6 c.words c.count T.intervals c.total b → Says b (Rule T c 6)
  says_6 b d = d.says T c here refl refl

  says_7 : (b : Bool) → Decides7 c.words c.count T.intervals T.mentions T.safepoints b → Says b (Rule T c 7)
  says_7 b d = d.says T c here refl refl refl

  -- before rule 1 none is asked
  held_none : HoldBelow T c 1
  held_none i p h = absurd (none i p h)
    where
      none : (i : ℕ) → 0 < i → i < 1 → ⊥
      none i p h = omega arith

  -- rule j holds too
  held_more : (j : ℕ) → HoldBelow T c j → Rule T c j → HoldBelow T c (j + 1)
  held_more j f s i p h = go (dec_lt i j)
    where
      go : Dec (i < j) → Rule T c i
      go (yes l) = f i p l
      go (no l) = let q : i ≡ j = omega arith in rw q s

  -- the rules one after the other
  pub held_1 : Decides1 c.words c.count T.intervals true → HoldBelow T c 2
  held_1 d = held_more 1 held_none ((says_1 true d).holds refl)

  pub held_2 : HoldBelow T c 2 → Decides2 c.words c.count T.intervals T.mentions true → HoldBelow T c 3
  held_2 f d = held_more 2 f ((says_2 true d).holds refl)

  pub held_3 : HoldBelow T c 3 → Decides3 c.words c.count T.intervals T.classes true → HoldBelow T c 4
  held_3 f d = held_more 3 f ((says_3 true d).holds refl)

  pub held_4 : HoldBelow T c 4 → Decides4 c.words c.count true → HoldBelow T c 5
  held_4 f d = held_more 4 f ((says_4 true d).holds refl)

  pub held_5 : HoldBelow T c 5 → Decides5 c.words c.count T.registers T.fragments true → HoldBelow T c 6
  held_5 f d = held_more 5 f ((says_5 true d).holds refl)

  pub held_6 : HoldBelow T c 6 → Decides6 c.words c.count T.intervals c.total true → HoldBelow T c 7
  held_6 f d = held_more 6 f ((says_6 true d).holds refl)

  pub held_7 : HoldBelow T c 7 → Decides7 c.words c.count T.intervals T.mentions T.safepoints true → HoldBelow T c 8
  held_7 f d = held_more 7 f ((says_7 true d).holds refl)

  -- rule j is the lowest that is broken
  pub broken_1 : Decides1 c.words c.count T.intervals false → BrokenAt T c 1
  broken_1 d = record { some = omega arith; most = omega arith; below = held_none; breaks = (says_1 false d).fails refl }

  pub broken_2 : HoldBelow T c 2 → Decides2 c.words c.count T.intervals T.mentions false → BrokenAt T c 2
  broken_2 f d = record { some = omega arith; most = omega arith; below = f; breaks = (says_2 false d).fails refl }

  pub broken_3 : HoldBelow T c 3 → Decides3 c.words c.count T.intervals T.classes false → BrokenAt T c 3
  broken_3 f d = record { some = omega arith; most = omega arith; below = f; breaks = (says_3 false d).fails refl }

  pub broken_4 : HoldBelow T c 4 → Decides4 c.words c.count false → BrokenAt T c 4
  broken_4 f d = record { some = omega arith; most = omega arith; below = f; breaks = (says_4 false d).fails refl }

  pub broken_5 : HoldBelow T c 5 → Decides5 c.words c.count T.registers T.fragments false → BrokenAt T c 5
  broken_5 f d = record { some = omega arith; most = omega arith; below = f; breaks = (says_5 false d).fails refl }

  pub broken_6 : HoldBelow T c 6 → Decides6 c.words c.count T.intervals c.total false → BrokenAt T c 6
  broken_6 f d = record { some = omega arith; most = omega arith; below = f; breaks = (says_6 false d).fails refl }

  pub broken_7 : HoldBelow T c 7 → Decides7 c.words c.count T.intervals T.mentions T.safepoints false → BrokenAt T c 7
  broken_7 f d = record { some = omega arith; most = omega arith; below = f; breaks = (says_7 false d).fails refl }

  -- a claim that is too long
  pub over_count : 16384 < c.count → Checks T c (Err OverLimit)
  unfolding check_all check_claim
  over_count h = refused OverLimit (simp (lt-ltb 16384 c.count h))

  -- a claim beyond its slice
  pub over_words : c.count ≤ 16384 → length c.words < c.count * 2 → Checks T c (Err OverLimit)
  unfolding check_all check_claim
  over_words f h = refused OverLimit (simp (le-ltb 16384 c.count f, lt-ltb (length c.words) (c.count * 2) h))

  module _ (f : c.count ≤ 16384) (t : c.count * 2 ≤ length c.words) where
    -- no ground in the claim: the tables decide
    by_tables : check_all T c ≡ check_tables T
    unfolding check_all check_claim
    by_tables = simp (le-ltb 16384 c.count f, le-ltb (length c.words) (c.count * 2) t)

    pub tables_refused : (k : Check) (a : Refusal) → k ≡ check_tables T → k ≡ Err a → Checks T c (Err a)
    tables_refused k a e q = refused a (by_tables ∙ sym e ∙ q)

    -- and the rules, where these are sound
    pub answered : (k : Check) (v : Result (Unit {0}) Broken) (r : Answer) → k ≡ check_tables T → k ≡ fine → Judges T c v → r ≡ answer_of v c.count c.total → Checks T c r
    answered k v r e q j a = rw a (go v j)
      where
        passes : check_all T c ≡ fine
        passes = by_tables ∙ sym e ∙ q

        go : (v : Result (Unit {0}) Broken) → Judges T c v → Checks T c (answer_of v c.count c.total)
        go (Ok _) j = accepted passes j
        go (Err b) j = broken b.rule passes j.some j.most j.below j.breaks
