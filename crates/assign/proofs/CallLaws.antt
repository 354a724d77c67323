-- The call: the strategy by its number, the room, the checks by their cases, and the end of a run written out.
-- Assumes nothing.
use Rattle.rules.specs.Answers.{fine, Answer, Check, number}
use Rattle.rules.specs.Answers as answers
use Rattle.std.specs.Prelude.{None, Some, Ok, Err}
use Prim.Native.Nat.{ℕ, ◌+◌, ◌*◌, ◌≤◌, ◌<◌}
use mathlib.Core.Path.{◌≡◌, refl, sym, ap, ◌∙◌}
use mathlib.Core.Bool.{Bool, true, false, ◌||◌}
use mathlib.Core.List.{List}
use native.Mathlib.Omega.{arith}
use lib.ListN.{length}
use lib.Dec.{ltb}
use mir.Val.{Fits}
use mir.Syntax.{w32}
use borrow.Author.Tests.{lt-ltb, le-ltb, ltb-false}
use Rattle.words.specs.Choose.{choose}
use Rattle.words.specs.Packed.{interval_count, record_words}
use Rattle.rules.specs.declared.Options.{Options}
use Rattle.rules.specs.declared.Refusal.{Refusal}
use Rattle.rules.specs.declared.Refusal.TheVariants.{BadStrategy, NoRoom}
use Rattle.rules.specs.declared.Mode.{Mode}
use Rattle.rules.specs.declared.Strategy.{Strategy}
use Rattle.rules.specs.Tables.{Tables}
use Rattle.rules.specs.Sound.{check_tables}
use Rattle.rules.specs.Room.{capacity, work_needed, strategy_of, check_room}
use Rattle.rules.specs.State.{Outcome}
use Rattle.rules.specs.Call.{Effect, Assigned, assign, assign_by, check, unless_refused, mode_of, given, run_for, finish, write_records, zero_records}
use Rattle.rules.proofs.Keeps.{All, on, off}
use Rattle.rules.proofs.Runs.{Finished}
use Rattle.rules.proofs.AcceptedLaws.{then_left, then_right}
use Rattle.rules.proofs.Accepted.{accepted}
use Rattle.rules.proofs.Leaves.{call_ends}
use Rattle.store.specs.declared.Counts.{Counts}
use Rattle.store.specs.StateOf.{state_of, Ready, Loads, Loaded}
use Rattle.store.proofs.StateLaws.{records_are}
use Rattle.split.specs.Turns.{Turn}
use Rattle.split.specs.Turns.{outcome_of}
use Rattle.tables.specs.Given.{tables}
use Rattle.assign.specs.Calling.{Allowed, Begun, Ran, Ends, done, refused, Closing, Concluded}

-- ---- the strategy: what a number that is m names, and a number that is none of the seven
-- ---- 3 to 8, then 9
module _ (T : Tables) (cap work : ℕ) (r : Check) (e : r ≡ check_tables T) where
  pub check_refused : (a : Refusal) → r ≡ Err a → Err a ≡ check T cap work
  unfolding check
  check_refused a f = simp (← e, f)

  pub check_passed : (x : Check) → r ≡ fine → x ≡ check_room (interval_count T.intervals) cap work → x ≡ check T cap work
  unfolding check
  check_passed x f g = simp (← e, f) g

-- ---- 9
module _ (n cap work : ℕ) where
  pub room_few : cap < n → Err NoRoom ≡ check_room n cap work
  unfolding check_room
  room_few h = simp (lt-ltb _ _ h)

  pub room_short : n ≤ cap → work < 8 * cap + 256 → Err NoRoom ≡ check_room n cap work
  unfolding check_room
  room_short h l = simp (le-ltb _ _ h, lt-ltb _ _ l)

  pub room_fine : n ≤ cap → 8 * cap + 256 ≤ work → fine ≡ check_room n cap work
  unfolding check_room
  room_fine h l = simp (le-ltb _ _ h, le-ltb _ _ l)

-- ---- the end of a run
module _ (cap : ℕ) (ws out out' : List ℕ) (r : Turn) (n : Closing cap ws out r) where
  -- a run that is done left the area ready
  pub done_ready : (c : Counts) → r ≡ Ok c → Ready cap ws c
  done_ready c e = go r n.ends e
    where
      go : (t : Turn) → Ends cap ws t → t ≡ Ok c → Ready cap ws c
      go t (done d h) f = let same : d ≡ c = cc in rw same at h
      go t (refused a) f = let z : ◌≡◌ {A = ℕ} 0 1 = cc in absurd (omega arith)

  pub done_out : (c : Counts) → r ≡ Ok c → c.records * record_words ≤ length out
  done_out c e = omega (arith, (done_ready c e).records, n.is)

  pub done_count : (c : Counts) → r ≡ Ok c → Fits w32 c.records
  done_count c e = let h = done_ready c e in omega (arith, h.records, h.most)

  pub concludes_done : (c : Counts) → r ≡ Ok c → out' ≡ write_records (state_of cap ws c).pieces out → Concluded (outcome_of cap ws r) out out' (answers.done c.records c.total)
  unfolding outcome_of finish state_of
  concludes_done c e o = let l = records_are cap ws c (done_ready c e) in record { answers = simp (e, l); leaves = simp e o }

  pub concludes_refused : (a : Refusal) → r ≡ Err a → out' ≡ zero_records out → Concluded (outcome_of cap ws r) out out' (Err a)
  unfolding outcome_of finish
  concludes_refused a e o = record { answers = simp e; leaves = simp e o }

-- ---- the run between the checks and its end
module _ (n : ℕ) (m : Mode) (cs rs fs is ms ss : List ℕ) (cap : ℕ) (ws out : List ℕ) (h : Allowed (tables n cs rs fs is ms ss) cap ws out) where
  pub loads : Loads cap is ws
  loads = record { most = h.checked.most; long = h.checked.long; inside = h.checked.inside; few = h.checked.sound.limits.intervals }

  module _ (ws₁ : List ℕ) (c : Counts) (l : Loaded cap is ws ws₁ c (interval_count is)) where
    pub begins : Begun (tables n cs rs fs is ms ss) cap ws₁ c
    begins =
        record {
          checked = record { sound = h.checked.sound; most = h.checked.most; long = omega (arith, h.checked.long, l.long); inside = h.checked.inside };
          begins = l.is;
          ready = l.ready;
          rows = l.intervals;
        }

    module _ (ws₂ : List ℕ) (r : Turn) (d : Ran m (tables n cs rs fs is ms ss) cap ws₁ ws₂ r) where
      pub closes : Closing cap ws₂ out r
      closes = record { ends = d.ends; is = h.is }

      pub concludes : (out' : List ℕ) (a : Answer) → Concluded (outcome_of cap ws₂ r) out out' a → Concluded (run_for m (tables n cs rs fs is ms ss) cap) out out' a
      concludes out' a k = rw d.meets at k

-- ---- the call
-- a run that passed the checks answers with none of 2 to 9
not_entry : (m : Mode) (T : Tables) (cap work : ℕ) (out : List ℕ) (a : Answer) → check T cap work ≡ fine → a ≡ (finish (run_for m T cap) out).answer → 2 ≤ number a → number a ≤ 9 → ⊥
unfolding finish
not_entry m T cap work out a e f l h = go (run_for m T cap) (call_ends m T cap work e) f
  where
    go : (x : Outcome) → All (Finished (given m T cap)) x → a ≡ (finish x out).answer → ⊥
    go x (on s k) g = let z : number a ≡ 1 = ap number g in omega arith
    go x (off b d) g = let z : number a ≡ number (Err b) = ap number g in omega (arith, d.least)

-- both of 8 and 9 passed
room_passed : (n cap work : ℕ) → check_room n cap work ≡ fine → (n ≤ cap) × (8 * cap + 256 ≤ work)
unfolding check_room
room_passed n cap work e = go (ltb cap n) (ltb work (work_needed cap)) refl refl e
  where
    go : (a b : Bool) → ltb cap n ≡ a → ltb work (work_needed cap) ≡ b → choose (a || b) (Err NoRoom) fine ≡ fine → (n ≤ cap) × (8 * cap + 256 ≤ work)
    go true b f g i = let z : ◌≡◌ {A = ℕ} 0 1 = cc in absurd (omega arith)
    go false true f g i = let z : ◌≡◌ {A = ℕ} 0 1 = cc in absurd (omega arith)
    go false false f g i = (ltb-false cap n f, ltb-false work (work_needed cap) g)

-- 3 to 9 passed
pub lets_in : (T : Tables) (out ws : List ℕ) (cap : ℕ) (k : Check) → cap ≡ capacity out → k ≡ check T cap (length ws) → k ≡ fine → Allowed T cap ws out
unfolding check
lets_in T out ws cap k c d g =
    let b = room_passed (interval_count T.intervals) cap (length ws) (then_right (check_tables T) (check_room (interval_count T.intervals) cap (length ws)) (sym d ∙ g)) in
    record { checked = record { sound = accepted T (then_left (check_tables T) _ (sym d ∙ g)); most = omega (arith, c); long = omega (arith, b.1); inside = b.0 }; is = c }

module _ (o : Options) (T : Tables) (out ws : List ℕ) where
  -- 2
  pub unknown : strategy_of o.strategy ≡ None → Assigned o T out out ws ws (Err BadStrategy)
  unfolding assign assign_by
  unknown f =
      let b : assign o T out (length ws) ≡ record { answer = Err BadStrategy; leaves = out } = ap (assign_by o T out (length ws)) f in
      record { answers = sym (ap (λ (x : Effect). x.answer) b); leaves = sym (ap (λ (x : Effect). x.leaves) b); keeps = λ l h. refl }

  module _ (y : Strategy) (f : strategy_of o.strategy ≡ Some y) (cap : ℕ) (c : cap ≡ capacity out) (k : Check) (d : k ≡ check T cap (length ws)) where
    abbrev ends : Effect
    ends = finish (run_for (mode_of y o) T cap) out

    known : assign o T out (length ws) ≡ unless_refused k out ends
    unfolding assign assign_by
    known =
        ap (assign_by o T out (length ws)) f
        ∙ ap (λ (m : ℕ). unless_refused (check T m (length ws)) out (finish (run_for (mode_of y o) T m) out)) (sym c)
        ∙ ap (λ (x : Check). unless_refused x out ends) (sym d)

    -- 3 to 9
    pub turned_away : (a : Refusal) → k ≡ Err a → Assigned o T out out ws ws (Err a)
    turned_away a g =
        let b : assign o T out (length ws) ≡ record { answer = Err a; leaves = out } = known ∙ ap (λ (x : Check). unless_refused x out ends) g in
        record { answers = sym (ap (λ (x : Effect). x.answer) b); leaves = sym (ap (λ (x : Effect). x.leaves) b); keeps = λ l h. refl }

    -- 1, and 10 to 13
    pub let_in : (out' ws' : List ℕ) (a : Answer) → k ≡ fine → Concluded (run_for (mode_of y o) T cap) out out' a → Assigned o T out out' ws ws' a
    let_in out' ws' a g x =
        let b : assign o T out (length ws) ≡ ends = known ∙ ap (λ (x : Check). unless_refused x out ends) g in
        record {
          answers = x.answers ∙ sym (ap (λ (x : Effect). x.answer) b);
          leaves = x.leaves ∙ sym (ap (λ (x : Effect). x.leaves) b);
          keeps = λ l h. absurd (not_entry (mode_of y o) T cap (length ws) out a (sym d ∙ g) x.answers l h);
        }
