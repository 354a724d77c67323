-- What a call leaves, by its answer's number: the result area keeps its length and what lies past the capacity; 2 to 9 leave it as it was, 10 to 13 zero it.
-- Assumes nothing.
use Rattle.std.specs.Prelude.{Option, None, Some, Ok, Err}
use Prim.Native.Nat.{ℕ, ◌+◌, ◌-◌, ◌*◌, ◌≤◌}
use mathlib.Core.Path.{◌≡◌, refl, sym, ap, ◌∙◌}
use mathlib.Core.Bool.{Bool, true, false, ◌||◌}
use mathlib.Core.List.{List, [], ◌∷◌}
use native.Mathlib.Omega.{arith}
use lib.ListN.{length, drop, replicate, length-append, length-drop, length-replicate}
use lib.Seq.{drop-drop, drop_at}
use lib.Dec.{ltb}
use borrow.Author.Tests.{ltb-false}
use Rattle.words.specs.Choose.{choose}
use Rattle.words.specs.Packed.{interval_count, record_words}
use Rattle.rules.specs.declared.Strategy.{Strategy}
use Rattle.rules.specs.declared.Refusal.{Refusal}
use Rattle.rules.specs.declared.Refusal.TheVariants.{BadStrategy, OverLimit, BadClass, BadInterval, BadMention, BadSafepoint, BadFixed, NoRoom}
use Rattle.rules.specs.Answers.{fine, Check, number}
use Rattle.rules.specs.declared.Mode.{Mode}
use Rattle.rules.specs.declared.Options.{Options}
use Rattle.rules.specs.declared.Piece.{Piece}
use Rattle.rules.specs.Tables.{Tables}
use Rattle.rules.specs.Room.{capacity, work_needed, strategy_of, check_room}
use Rattle.rules.specs.Sound.{and_then, refuse_at, in_limits, check_limits, bad_class, bad_interval, bad_mention, bad_safepoint, bad_fixed, check_tables}
use Rattle.rules.specs.State.{Outcome, goes, stops}
use Rattle.rules.specs.Call.{Effect, pack_records, write_records, zero_records, finish, check, given, mode_of, run_for, assign_by, assign, unless_refused}
use Rattle.rules.proofs.AcceptedLaws.{then_right}
use Rattle.rules.proofs.Keeps.{All, on, off}
use Rattle.rules.proofs.Runs.{Finished, run_done}

-- a check at entry refuses with 3 to 9
pub data AtEntry : Check → Type 0 where
  passes : AtEntry fine
  refuses : (a : Refusal) → 3 ≤ number (Err a) → number (Err a) ≤ 9 → AtEntry (Err a)

entry_then : (a b : Check) → AtEntry a → AtEntry b → AtEntry (and_then a b)
entry_then a b passes k = k
entry_then a b (refuses x l m) k = refuses x l m

entry_choose : (b : Bool) (x y : Check) → AtEntry x → AtEntry y → AtEntry (choose b x y)
entry_choose true x y h k = h
entry_choose false x y h k = k

entry_at : (a : ℕ → Refusal) → ((k : ℕ) → (3 ≤ number (Err (a k))) × (number (Err (a k)) ≤ 9)) → (f : Option ℕ) → AtEntry (refuse_at a f)
entry_at a h None = passes
entry_at a h (Some k) = refuses (a k) (h k).0 (h k).1

limits_entry : (T : Tables) → AtEntry (check_limits T)
unfolding check_limits
limits_entry T = entry_choose (in_limits T) fine (Err OverLimit) passes (refuses OverLimit (omega arith) (omega arith))

pub tables_entry : (T : Tables) → AtEntry (check_tables T)
unfolding check_tables
tables_entry T =
    entry_then (check_limits T) _ (limits_entry T)
    (entry_then (refuse_at BadClass (bad_class T)) _ (entry_at BadClass (λ k. (omega arith, omega arith)) (bad_class T))
    (entry_then (refuse_at BadInterval (bad_interval T)) _ (entry_at BadInterval (λ k. (omega arith, omega arith)) (bad_interval T))
    (entry_then (refuse_at BadMention (bad_mention T)) _ (entry_at BadMention (λ k. (omega arith, omega arith)) (bad_mention T))
    (entry_then (refuse_at BadSafepoint (bad_safepoint T)) (refuse_at BadFixed (bad_fixed T)) (entry_at BadSafepoint (λ k. (omega arith, omega arith)) (bad_safepoint T))
    (entry_at BadFixed (λ k. (omega arith, omega arith)) (bad_fixed T))))))

room_entry : (n cap work : ℕ) → AtEntry (check_room n cap work)
unfolding check_room
room_entry n cap work = entry_choose (ltb cap n || ltb work (work_needed cap)) (Err NoRoom) fine (refuses NoRoom (omega arith) (omega arith)) passes

pub check_entry : (T : Tables) (cap work : ℕ) → AtEntry (check T cap work)
unfolding check
check_entry T cap work = entry_then (check_tables T) _ (tables_entry T) (room_entry _ cap work)

-- 9 passed: the intervals are within the capacity
room_fine : (n cap work : ℕ) → check_room n cap work ≡ fine → n ≤ cap
unfolding check_room
room_fine n cap work e = go (ltb cap n) refl
  where
    go : (b : Bool) → ltb cap n ≡ b → n ≤ cap
    go true t = let f : Err NoRoom ≡ fine = simp t at e in let z : ◌≡◌ {A = ℕ} 0 1 = cc in absurd (omega arith)
    go false t = ltb-false cap n t

pub check_room_lem : (T : Tables) (cap work : ℕ) → check T cap work ≡ fine → interval_count T.intervals ≤ cap
unfolding check
check_room_lem T cap work e = room_fine _ _ work (then_right (check_tables T) _ e)

pub length_pack : (qs : List Piece) → length (pack_records qs) ≡ length qs * record_words
unfolding pack_records
length_pack [] = refl
length_pack (q ∷ qs) = let ih = length_pack qs in omega arith

length_write : (qs : List Piece) (out : List ℕ) → length qs ≤ capacity out → length (write_records qs out) ≡ length out
length_write qs out h = let l = length_pack qs in simp (length-append, length-drop) (omega arith)

length_zero : (out : List ℕ) → length (zero_records out) ≡ length out
length_zero out = simp (length-append, length-drop, length-replicate) (omega arith)

-- "anything past capacity" is never written, nor an odd last word: the words after the last whole record are the old ones
drop_write : (qs : List Piece) (out : List ℕ) → length qs ≤ capacity out → drop (capacity out * record_words) (write_records qs out) ≡ drop (capacity out * record_words) out
drop_write qs out h =
    let l : length (pack_records qs) ≡ length qs * record_words = length_pack qs in
    let e : capacity out * record_words ≡ length qs * record_words + (capacity out - length qs) * record_words = omega arith in
    ap (λ (k : ℕ). drop k (write_records qs out)) e
    ∙ sym (drop-drop ((capacity out - length qs) * record_words) (length qs * record_words) (write_records qs out))
    ∙ ap (drop ((capacity out - length qs) * record_words)) (drop_at (pack_records qs) _ (length qs * record_words) l)
    ∙ drop-drop ((capacity out - length qs) * record_words) (length qs * record_words) out
    ∙ ap (λ (k : ℕ). drop k out) (sym e)

drop_zero : (out : List ℕ) → drop (capacity out * record_words) (zero_records out) ≡ drop (capacity out * record_words) out
drop_zero out = drop_at (replicate (capacity out * record_words) 0) _ (capacity out * record_words) (length-replicate _ _)

-- what a result r leaves of the area out
pub record Leaves (out : List ℕ) (r : Effect) : Type 0 where
  pub long : length r.leaves ≡ length out
  pub past : drop (capacity out * record_words) r.leaves ≡ drop (capacity out * record_words) out
  pub known : number r.answer ≤ 13
  pub entry : 2 ≤ number r.answer → number r.answer ≤ 9 → r.leaves ≡ out
  pub during : 10 ≤ number r.answer → r.leaves ≡ zero_records out

refused_leaves : (out : List ℕ) (a : Refusal) → number (Err a) ≤ 9 → Leaves out (record { answer = Err a; leaves = out })
refused_leaves out a h = record { long = refl; past = refl; known = omega arith; entry = λ l m. refl; during = λ l. absurd (omega arith) }

finish_leaves : (m : Mode) (T : Tables) (out : List ℕ) (x : Outcome) → All (Finished (given m T (capacity out))) x → Leaves out (finish x out)
unfolding finish
finish_leaves m T out x (on s h) =
    record { long = length_write s.pieces out h.within; past = drop_write s.pieces out h.within; known = omega arith; entry = λ l n. absurd (omega arith); during = λ l. absurd (omega arith) }
finish_leaves m T out x (off a d) =
    record { long = length_zero out; past = drop_zero out; known = d.most; entry = λ l n. absurd (omega (arith, d.least)); during = λ l. refl }

-- the run of a call, where the checks passed, ends with an empty queue or with 10 to 13
pub call_ends : (m : Mode) (T : Tables) (cap work : ℕ) → check T cap work ≡ fine → All (Finished (given m T cap)) (run_for m T cap)
unfolding run_for
call_ends m T cap work e = run_done (given m T cap) T.intervals (check_room_lem T cap work e)

pub assign_leaves : (o : Options) (T : Tables) (out : List ℕ) (work : ℕ) → Leaves out (assign o T out work)
unfolding assign assign_by
assign_leaves o T out work = by (strategy_of o.strategy)
  where
    by : (y : Option Strategy) → Leaves out (assign_by o T out work y)
    by None = refused_leaves out BadStrategy (omega arith)
    by (Some y) = go (check T (capacity out) work) refl (check_entry T (capacity out) work)
      where
        go : (k : Check) → check T (capacity out) work ≡ k → AtEntry k → Leaves out (unless_refused k out (finish (run_for (mode_of y o) T (capacity out)) out))
        go (Ok u) e h = finish_leaves (mode_of y o) T out _ (call_ends (mode_of y o) T (capacity out) work e)
        go (Err a) e (refuses b l n) = refused_leaves out a n

-- the answer depends on the options, the tables and the two lengths alone
pub answers_alone : (o : Options) (T : Tables) (out other : List ℕ) (work : ℕ) → length out ≡ length other → (assign o T out work).answer ≡ (assign o T other work).answer
unfolding assign assign_by finish
answers_alone o T out other work e = by (strategy_of o.strategy)
  where
    same : capacity out ≡ capacity other
    same = rw e

    finishes : (x : Outcome) → (finish x out).answer ≡ (finish x other).answer
    finishes (goes s) = refl
    finishes (stops a) = refl

    checked : (k : Check) (x : Outcome) → (unless_refused k out (finish x out)).answer ≡ (unless_refused k other (finish x other)).answer
    checked (Ok u) x = finishes x
    checked (Err a) x = refl

    by : (y : Option Strategy) → (assign_by o T out work y).answer ≡ (assign_by o T other work y).answer
    by None = refl
    by (Some y) =
        ap (λ (cap : ℕ). (unless_refused (check T cap work) out (finish (run_for (mode_of y o) T cap) out)).answer) same
        ∙ checked (check T (capacity other) work) (run_for (mode_of y o) T (capacity other))
