-- Every done result obeys the placement rules, so the checker accepts it.
-- Assumes nothing.
use Rattle.rules.specs.declared.Strategy.{Strategy}
use Rattle.rules.specs.Answers.{fine, Answer, done, Check, number, count, total}
use Rattle.std.specs.Prelude.{Option, None, Some, Ok, Err}
use Prim.Native.Nat.{ℕ, ◌*◌, ◌≤◌}
use mathlib.Core.Path.{◌≡◌, refl, sym, ap}
use mathlib.Core.Bool.{Bool, true, false, ◌||◌}
use mathlib.Core.List.{List}
use native.Mathlib.Omega.{arith}
use borrow.Author.Tests.{ltb-true}
use lib.Dec.{ltb}
use lib.ListN.{length, drop}
use Rattle.words.specs.Choose.{choose}
use Rattle.words.specs.Packed.{record_words}
use Rattle.rules.specs.declared.Refusal.{Refusal}
use Rattle.rules.specs.declared.Refusal.TheVariants.{OverLimit}
use Rattle.rules.specs.declared.Mode.{Mode}
use Rattle.rules.specs.declared.Options.{Options}
use Rattle.rules.specs.Tables.{Tables}
use Rattle.rules.specs.Room.{capacity, strategy_of}
use Rattle.rules.specs.Sound.{check_tables}
use Rattle.rules.specs.State.{Outcome, goes}
use Rattle.rules.specs.Call.{Effect, finish, check, given, mode_of, run_for, assign_by, assign, unless_refused}
use Rattle.rules.specs.Placement.{Claim}
use Rattle.rules.specs.Checker.{check_claim, check_all, HoldBelow, Checks, accepted}
use Rattle.rules.proofs.Accepted as sound
use Rattle.rules.proofs.AcceptedLaws.{then_left}
use Rattle.rules.proofs.Keeps.{All, on, off}
use Rattle.rules.proofs.Runs.{Finished}
use Rattle.rules.proofs.Leaves.{AtEntry, refuses, assign_leaves, check_entry, check_room_lem, call_ends}
use Rattle.theorems.specs.Invariant.{Good, NoOne, Inv}
use Rattle.theorems.proofs.Loop.{begin_inv, run_keeps}
use Rattle.theorems.proofs.Rules.{record_is, fits, rules_hold}

-- what a result claims, where n records and total t are claimed of it
abbrev pub claim : Effect → ℕ → ℕ → Claim
claim r n t = record { words = r.leaves; count = n; total = t }

-- a result that is done obeys the rules, and its tables are sound
pub record Obeys (T : Tables) (out : List ℕ) (r : Effect) : Type 0 where
  pub sound : (n t : ℕ) → r.answer ≡ done n t → check_tables T ≡ fine
  pub within : (n t : ℕ) → r.answer ≡ done n t → n ≤ capacity out
  pub rules : (n t : ℕ) → r.answer ≡ done n t → HoldBelow T (claim r n t) 8

-- an answer with another number is not done
not_done : {A : Type 0} (a : Answer) (n t : ℕ) → 2 ≤ number a → a ≡ done n t → A
not_done a n t h e = let z : number a ≡ 1 = ap number e in absurd (omega arith)

pub check_tables_lem : (T : Tables) (cap work : ℕ) → check T cap work ≡ fine → check_tables T ≡ fine
unfolding check
check_tables_lem T cap work e = then_left (check_tables T) _ e

-- the run of a call whose checks passed keeps the invariant to its end
pub call_keeps : (m : Mode) (T : Tables) (cap work : ℕ) → cap ≤ 16384 → check T cap work ≡ fine → Good (λ s. (l : ℕ) × Inv (given m T cap) l NoOne s) (run_for m T cap)
unfolding run_for
call_keeps m T cap work small e =
    let ok = sound.accepted T (check_tables_lem T cap work e) in
    run_keeps (given m T cap) ok small cap 0 _ (begin_inv (given m T cap) ok small (check_room_lem T cap work e))

finish_obeys : (m : Mode) (T : Tables) (out : List ℕ) (x : Outcome) → check_tables T ≡ fine → Good (λ s. (l : ℕ) × Inv (given m T (capacity out)) l NoOne s) x → All (Finished (given m T (capacity out))) x → Obeys T out (finish x out)
unfolding finish
finish_obeys m T out x e k (on s h) =
    record {
      sound = λ n t d. e;
      within = λ n t d. let a : length s.pieces ≡ n = ap count d in omega (arith, h.within);
      rules = λ n t d.
          let a : length s.pieces ≡ n = ap count d in
          let b : s.total ≡ t = ap total d in
          let g = given m T (capacity out) in
          let ok = sound.accepted T e in
          rules_hold g ok k.0 s k.1 h.empty (claim (finish (goes s) out) n t) (sym a) (sym b)
          (λ j l. record_is s.pieces (drop (length s.pieces * record_words) out) j l (fits g ok k.0 s k.1 h.empty j l));
    }
finish_obeys m T out x e k (off a d) =
    record { sound = λ n t p. e; within = λ n t p. not_done (Err a) n t (omega (arith, d.least)) p; rules = λ n t p. not_done (Err a) n t (omega (arith, d.least)) p }

pub assign_obeys : (o : Options) (T : Tables) (out : List ℕ) (work : ℕ) → Obeys T out (assign o T out work)
unfolding assign assign_by
assign_obeys o T out work = by (strategy_of o.strategy)
  where
    refused : (a : Refusal) → 2 ≤ number (Err a) → Obeys T out (record { answer = Err a; leaves = out })
    refused a h = record { sound = λ n t e. not_done (Err a) n t h e; within = λ n t e. not_done (Err a) n t h e; rules = λ n t e. not_done (Err a) n t h e }

    by : (y : Option Strategy) → Obeys T out (assign_by o T out work y)
    by None = refused _ (omega arith)
    by (Some y) = go (check T (capacity out) work) refl (check_entry T (capacity out) work)
      where
        go : (k : Check) → check T (capacity out) work ≡ k → AtEntry k → Obeys T out (unless_refused k out (finish (run_for (mode_of y o) T (capacity out)) out))
        go (Ok u) e h =
            finish_obeys (mode_of y o) T out (run_for (mode_of y o) T (capacity out)) (check_tables_lem T (capacity out) work e) (call_keeps (mode_of y o) T (capacity out) work (omega arith) e)
            (call_ends (mode_of y o) T (capacity out) work e)
        go (Err a) e (refuses b l n) = refused a (omega arith)

-- the claim is within its limits and its slice
claim_fine : (c : Claim) → c.count ≤ 16384 → c.count * record_words ≤ length c.words → check_claim c ≡ fine
unfolding check_claim
claim_fine c h k = go (ltb 16384 c.count) (ltb (length c.words) (c.count * record_words)) refl refl
  where
    go : (a b : Bool) → ltb 16384 c.count ≡ a → ltb (length c.words) (c.count * record_words) ≡ b → choose (a || b) (Err OverLimit) fine ≡ fine
    go true b e f = absurd (omega (arith, ltb-true 16384 c.count e))
    go false true e f = absurd (omega (arith, ltb-true (length c.words) (c.count * record_words) f))
    go false false e f = refl

-- demand 3's second half
module _ (o : Options) (T : Tables) (out : List ℕ) (work n t : ℕ) (is : (assign o T out work).answer ≡ done n t) where
  pub done_rules : HoldBelow T (claim (assign o T out work) n t) 8
  done_rules = (assign_obeys o T out work).rules n t is

  pub done_checked : check_all T (claim (assign o T out work) n t) ≡ fine
  unfolding check_all
  done_checked =
      let w = (assign_obeys o T out work).within n t is in
      let l = (assign_leaves o T out work).long in
      rw (claim_fine (claim (assign o T out work) n t) (omega arith) (omega arith)) ((assign_obeys o T out work).sound n t is)

  pub done_accepted : Checks T (claim (assign o T out work) n t) (done n t)
  done_accepted = accepted done_checked done_rules
