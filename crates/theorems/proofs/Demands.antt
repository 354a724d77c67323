-- What is proved of the definitions of `rules`, for every input, in the words of the demands. Each line cites its proof.
-- Assumes nothing.
use Rattle.rules.specs.Answers.{fine, Answer, done, number}
use Rattle.std.specs.Prelude.{Ok}
use Prim.Native.Nat.{ℕ, ◌*◌, ◌≤◌}
use mathlib.Core.Path.{◌≡◌, sym}
use mathlib.Core.List.{List, [], ◌∷◌}
use native.Mathlib.Omega.{arith}
use lib.ListN.{length, drop}
use Rattle.words.specs.Packed.{record_words}
use Rattle.rules.specs.declared.Mode.{Mode}
use Rattle.rules.specs.declared.Options.{Options}
use Rattle.rules.specs.Tables.{Tables}
use Rattle.rules.specs.Room.{capacity}
use Rattle.rules.specs.State.{State, Outcome, goes, with_queue, record_of_key}
use Rattle.rules.specs.Run.{begin}
use Rattle.rules.specs.Call.{given, check, run_for, zero_records, assign, Assigned}
use Rattle.rules.specs.Checker.{HoldBelow, Checks}
use Rattle.rules.proofs.Accepted.{accepted}
use Rattle.rules.proofs.Checker.{one_answer}
use Rattle.rules.proofs.Keeps.{All, on, off}
use Rattle.rules.proofs.Runs.{Finished}
use Rattle.rules.proofs.Leaves.{assign_leaves, answers_alone, call_ends, check_room_lem}
use Rattle.theorems.specs.Reach.{Reached, PoppedOnce}
use Rattle.theorems.specs.Defined.{Defined}
use Rattle.theorems.specs.Proper.{StepOk}
use Rattle.theorems.proofs.Loop.{begin_inv, reached_inv, turn_ok}
use Rattle.theorems.proofs.Defined.{reached_defined}
use Rattle.theorems.proofs.Pops.{done_popped}
use Rattle.theorems.proofs.Done.{claim, check_tables_lem, done_rules, done_accepted}

-- Demand 1. Any input gets an answer, and the run ends: where the checks pass, as many pops as the capacity empty the queue, or the run is refused as 10 to 13.
pub ends : (m : Mode) (T : Tables) (cap work : ℕ) → check T cap work ≡ fine → All (Finished (given m T cap)) (run_for m T cap)
ends = call_ends

-- and nothing on the way is ill-defined: at every turn of a run on accepted tables numbers are within bounds, and what is popped has no place yet
pub defined : (m : Mode) (T : Tables) (cap work l : ℕ) (s : State) → cap ≤ 16384 → check T cap work ≡ fine → Reached (given m T cap) l s → Defined (given m T cap) l s
defined m T cap work l s small e = reached_defined (given m T cap) (accepted T (check_tables_lem T cap work e)) l s small (check_room_lem T cap work e)

-- and each split and each spill that a step comes to is proper: a split falls inside its record, above its start; what is spilled was not spilled before
pub proper : (m : Mode) (T : Tables) (cap work l : ℕ) (s : State) (x : ℕ) (xs : List ℕ) → cap ≤ 16384 → check T cap work ≡ fine → Reached (given m T cap) l s → s.queue ≡ x ∷ xs → StepOk (given m T cap) (with_queue xs s) (record_of_key x)
proper m T cap work l s x xs small e r =
    let ok = accepted T (check_tables_lem T cap work e) in
    turn_ok (given m T cap) ok small l s x xs (reached_inv (given m T cap) ok small (check_room_lem T cap work e) l s r)

-- Done means that every queued record was popped, once.
pub popped : (m : Mode) (T : Tables) (cap work : ℕ) (t : State) → cap ≤ 16384 → check T cap work ≡ fine → run_for m T cap ≡ goes t → PoppedOnce (given m T cap) cap (begin T.intervals)
unfolding run_for
popped m T cap work t small e d =
    let ok = accepted T (check_tables_lem T cap work e) in
    done_popped (given m T cap) small ok cap 0 (begin T.intervals) t (begin_inv (given m T cap) ok small (check_room_lem T cap work e)) d (ended (run_for m T cap) (call_ends m T cap work e) d)
  where
    ended : (x : Outcome) → All (Finished (given m T cap)) x → x ≡ goes t → t.queue ≡ []
    ended x (on s h) v = let z : s ≡ t = cc in rw (← z) h.empty
    ended x (off a h) v = let z : ◌≡◌ {A = ℕ} 0 1 = cc in absurd (omega arith)

module _ (o : Options) (T : Tables) (out : List ℕ) (work : ℕ) where
  -- Demand 2, refusals. The answers are 1 to 13; 2 to 9 leave the result area as it was, 10 to 13 zero every whole record of capacity; an odd last word and what lies past capacity stay.
  pub known : number (assign o T out work).answer ≤ 13
  known = (assign_leaves o T out work).known

  pub refused_at_entry : 2 ≤ number (assign o T out work).answer → number (assign o T out work).answer ≤ 9 → (assign o T out work).leaves ≡ out
  refused_at_entry = (assign_leaves o T out work).entry

  pub refused_in_the_run : 10 ≤ number (assign o T out work).answer → (assign o T out work).leaves ≡ zero_records out
  refused_in_the_run = (assign_leaves o T out work).during

  pub never_written : drop (capacity out * record_words) (assign o T out work).leaves ≡ drop (capacity out * record_words) out
  never_written = (assign_leaves o T out work).past

  pub same_length : length (assign o T out work).leaves ≡ length out
  same_length = (assign_leaves o T out work).long

  -- the answer does not depend on what the result area held
  pub answer_alone : (other : List ℕ) → length out ≡ length other → (assign o T out work).answer ≡ (assign o T other work).answer
  answer_alone other = answers_alone o T out other work

  -- Demand 3. Every result that is reported as done, with n records and slot total t, obeys the placement rules 1 to 7, so the checker's answer to it is done with this n and t.
  pub obeys : (n t : ℕ) → (assign o T out work).answer ≡ done n t → HoldBelow T (claim (assign o T out work) n t) 8
  obeys = done_rules o T out work

  pub is_accepted : (n t : ℕ) → (assign o T out work).answer ≡ done n t → Checks T (claim (assign o T out work) n t) (done n t)
  is_accepted = done_accepted o T out work

-- Demand 3, over the calls. The assigner's contract is `Assigned`, the checker's is `Checks`. Whenever the assigner answers done, whatever the checker answers to its tables, result words, count and total is done with the same count and total.
pub together : (o : Options) (T : Tables) (out out' work work' : List ℕ) (n t : ℕ) (a : Answer) → Assigned o T out out' work work' (done n t) → Checks T (record { words = out'; count = n; total = t }) a → a ≡ done n t
together o T out out' work work' n t a h c =
    one_answer T _ a (done n t) c (rw h.leaves (is_accepted o T out (length work) n t (sym h.answers)))
