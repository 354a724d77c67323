-- Steps 2 to 5 for the popped record: the furthest register of the free-until row is the rules' choice, and the safepoints are looked at where the record goes on.
-- Assumes nothing.
use Rattle.std.specs.Prelude.{Ok, Err, Some}
use Prim.Native.Nat.{ℕ, ◌<◌}
use mathlib.Core.Path.{◌≡◌, refl, sym, ap, ◌∙◌}
use mathlib.Core.Bool.{Bool, true, false, not}
use mathlib.Core.List.{List, []}
use native.Mathlib.Omega.{arith}
use Rattle.words.specs.declared.Class.{Class}
use Rattle.words.specs.Packed.{interval_count}
use Rattle.rules.specs.declared.Refusal.{Refusal}
use Rattle.rules.specs.Steps.{Choice}
use Rattle.std.specs.Prelude.{None, Some}
use Rattle.rules.specs.declared.Mode.{Mode}
use Rattle.rules.specs.declared.Pos.{Pos}
use Rattle.rules.specs.declared.Strategy.{Strategy}
use Rattle.rules.specs.State.{Given, State, Outcome, goes, stops, go_on, piece}
use Rattle.rules.specs.Steps.{furthest, furthest_of, free_until, try_take, allocate_blocked, allocate, handle_safepoints}
use Rattle.store.specs.declared.Counts.{Counts}
use Rattle.store.specs.StateOf.{state_of, Ready}
use Rattle.choice.specs.Row.{pos_in}
use Rattle.choice.proofs.ChoiceLaws.{free_choice}
use Rattle.activity.specs.declared.Tracker.{Tracker}
use Rattle.split.specs.Turns.{Turn}
use Rattle.split.specs.Turns.{cutting, outcome_of, HeldOf, Does}
use Rattle.safepoints.specs.Safepoint.{looking}
use Rattle.safepoints.proofs.SafepointLaws.{handle_narrow, passed}
use Rattle.steps.specs.Stepping.{Tried}
use Rattle.steps.specs.Stepping.{stepping, Parting, Stepping, Tries, Stays, Ended, ended, refused, Did}
use Rattle.steps.proofs.AllocateLaws.{taken_only}
use Rattle.steps.proofs.TakingLaws.{ended_from}
use Rattle.assign.specs.declared.Front.{Front}
use Rattle.assign.specs.Looping.{Takes, Looking, Past, Finishing, Finished, Read, Settling, contended}

-- a turn that goes on stays ready
pub did_stays : (cap : ℕ) (ms ss ws ws' : List ℕ) (c e : Counts) (r : Turn) (o : Outcome) → Did cap ms ss ws ws' c r o → r ≡ Ok e → Stays cap ms ss ws' c e
did_stays cap ms ss ws ws' c e r o d q = go r d.ends q
  where
    go : (u : Turn) → Ended cap ms ss ws' c u → u ≡ Ok e → Stays cap ms ss ws' c e
    go u (ended x w) i = let same : x ≡ e = cc in rw same at w
    go u (refused a) i = let z : ◌≡◌ {A = ℕ} 0 1 = cc in absurd (omega arith)

-- ---- steps 2 and 3 by themselves
pub take_tries : (cap : ℕ) (m : Mode) (ms ss ws ws' : List ℕ) (c : Counts) (k : ℕ) (x y : Choice) (t : Tried) → Tries cap m ms ss ws ws' c k x t → x ≡ y → Tries cap m ms ss ws ws' c k y t
take_tries cap m ms ss ws ws' c k x y t h e = rw e at h

-- ---- step 5 by itself
pub finish_held : (cap : ℕ) (is ms ss ws : List ℕ) (k : ℕ) (x : Turn) (c : Counts) → Finishing cap is ms ss ws k x → x ≡ Ok c → HeldOf cap is ms ss ws c k
finish_held cap is ms ss ws k x c h q = h.held c q

-- whether anything is left to do
module _ (cap : ℕ) (is ws : List ℕ) (k : ℕ) (x : Turn) where
  module _ (c : Counts) (h : Looking cap is ws k x) (q : x ≡ Ok c) where
    pub look_ready : Ready cap ws c
    look_ready = h.ready c q

    pub look_inside : k < c.records
    look_inside = h.inside c q

    pub look_rows : c.intervals ≡ interval_count is
    look_rows = h.rows c q

  pub past_on : (c : Counts) (b : Bool) → x ≡ Ok c → b ≡ looking is (piece (state_of cap ws c) k) → Past cap is ws k x (not b)
  past_on c b q e = record { past = λ t d i. let same : c ≡ d = cc in rw (← same, ← e) (turned b t) }
    where
      turned : (y : Bool) → not y ≡ true → y ≡ false
      turned true r = sym r
      turned false r = refl

  pub past_off : (a : Refusal) → x ≡ Err a → Past cap is ws k x true
  past_off a q = record { past = λ t c i. absurd (let y : ◌≡◌ {A = ℕ} 0 1 = cc in omega arith) }

module _ (cap : ℕ) (z : Strategy) (is ms ss ws ws' : List ℕ) (k : ℕ) (x : Turn) where
  pub finish_on : (c : Counts) (r : Turn) → x ≡ Ok c → Does cap ms ss ws ws' c r (handle_safepoints (cutting z is ms ss cap) (state_of cap ws c) k) → Finished cap z is ms ss ws ws' k x r
  finish_on c r q d =
      record {
        on = λ e i. let same : c ≡ e = cc in rw same at d;
        off = λ a i. absurd (let y : ◌≡◌ {A = ℕ} 0 1 = cc in omega arith);
        kept = λ a i. absurd (let y : ◌≡◌ {A = ℕ} 0 1 = cc in omega arith);
      }

pub finish_off : (cap : ℕ) (z : Strategy) (is ms ss ws : List ℕ) (k : ℕ) (x : Turn) (a : Refusal) → x ≡ Err a → Finished cap z is ms ss ws ws k x (Err a)
finish_off cap z is ms ss ws k x a q =
    record {
      on = λ c i. absurd (let y : ◌≡◌ {A = ℕ} 0 1 = cc in omega arith);
      off = λ b i. let same : a ≡ b = cc in rw same;
      kept = λ b i. refl;
    }

-- nothing was left to do
pub finish_past : (cap : ℕ) (z : Strategy) (is ms ss ws : List ℕ) (k : ℕ) (x : Turn) (b : Bool) → Finishing cap is ms ss ws k x → Past cap is ws k x b → b ≡ true → Finished cap z is ms ss ws ws k x x
finish_past cap z is ms ss ws k x b h p t = go x refl
  where
    go : (y : Turn) → x ≡ y → Finished cap z is ms ss ws ws k x x
    go (Ok c) q =
        let e : looking is (piece (state_of cap ws c) k) ≡ false = p.past t c q in
        rw q (rw q at (finish_on cap z is ms ss ws ws k x c (Ok c) q (passed cap is ms ss ws c k z _ refl (h.held c q) e)))
    go (Err a) q = rw q (rw q at (finish_off cap z is ms ss ws k x a q))

pub held_looking : (cap : ℕ) (is ms ss ws : List ℕ) (k : ℕ) (x : Turn) → Finishing cap is ms ss ws k x → Looking cap is ws k x
held_looking cap is ms ss ws k x h =
    record { ready = λ c q. (h.held c q).ready; inside = λ c q. (h.held c q).inside; rows = λ c q. (h.held c q).rows }

-- ---- after steps 2 to 4, which did x, step 5 did r
module _ (cap n : ℕ) (m : Mode) (cs rs fs is ms ss ws ws₁ ws₂ : List ℕ) (c : Counts) (k : ℕ) (x r : Turn) (o : Outcome) (d : Did cap ms ss ws ws₁ c x o) (b : Finished cap m.strategy is ms ss ws₁ ws₂ k x r) where
  settled_on : (e : Counts) → x ≡ Ok e → Did cap ms ss ws ws₂ c r (go_on o (λ t. handle_safepoints (stepping n m cs rs fs is ms ss cap) t k))
  unfolding outcome_of
  settled_on e q =
      let g : Given = stepping n m cs rs fs is ms ss cap in
      let w = did_stays cap ms ss ws ws₁ c e x o d q in
      let v = b.on e q in
      let to : o ≡ goes (state_of cap ws₁ e) = sym d.meets ∙ rw q in
      record {
        meets = v.meets ∙ sym (handle_narrow g (state_of cap ws₁ e) k) ∙ ap (λ (y : Outcome). go_on y (λ t. handle_safepoints g t k)) (sym to);
        ends = ended_from cap ms ss ws₂ c e r w.records w.intervals v.turned;
        long = v.long ∙ d.long;
      }

  settled_off : (a : Refusal) → x ≡ Err a → Did cap ms ss ws ws₂ c r (go_on o (λ t. handle_safepoints (stepping n m cs rs fs is ms ss cap) t k))
  unfolding outcome_of
  settled_off a q =
      let g : Given = stepping n m cs rs fs is ms ss cap in
      let to : o ≡ stops a = sym d.meets ∙ rw q in
      rw (b.off a q, b.kept a q)
      (record { meets = ap (λ (y : Outcome). go_on y (λ t. handle_safepoints g t k)) (sym to); ends = refused a; long = d.long })

  pub settles : Did cap ms ss ws ws₂ c r (go_on o (λ t. handle_safepoints (stepping n m cs rs fs is ms ss cap) t k))
  settles = go x refl
    where
      go : (y : Turn) → x ≡ y → Did cap ms ss ws ws₂ c r (go_on o (λ t. handle_safepoints (stepping n m cs rs fs is ms ss cap) t k))
      go (Ok e) q = settled_on e q
      go (Err a) q = settled_off a q

-- a record that went on can be looked at for its safepoints
pub went_held : (cap : ℕ) (is ms ss ws ws₁ : List ℕ) (c : Counts) (k : ℕ) (x : Turn) (o : Outcome) → k < c.records → c.intervals ≡ interval_count is → Did cap ms ss ws ws₁ c x o
    → Finishing cap is ms ss ws₁ k x
went_held cap is ms ss ws ws₁ c k x o i h d =
    record {
      held = λ e q.
          let w = did_stays cap ms ss ws ws₁ c e x o d q in
          record { ready = w.ready; fit = w.fit; inside = omega (arith, i, w.records); rows = w.intervals ∙ h };
    }

-- ---- what was tried is what the rules do, or step 4 is due
module _ (cap : ℕ) (m : Mode) (is ms ss ws ws₁ : List ℕ) (f : Front) (row : List Pos) (t : Tried)
    (y : Tries cap m ms ss ws ws₁ f.counts f.record (furthest (pos_in row) f.class.scratch f.class.first f.class.count None) t) where
  chosen : (n : ℕ) (cs rs fs : List ℕ) → Read cap cs rs fs is ws f row
      → try_take (stepping n m cs rs fs is ms ss cap) (state_of cap ws f.counts) f.record (furthest (pos_in row) f.class.scratch f.class.first f.class.count None)
      ≡ allocate (stepping n m cs rs fs is ms ss cap) (state_of cap ws f.counts) f.record
  unfolding allocate
  chosen n cs rs fs h =
      let g : Given = stepping n m cs rs fs is ms ss cap in
      let s : State = state_of cap ws f.counts in
      ap (try_take g s f.record) (free_choice g f.class rs fs s (piece s f.record) row _ refl refl refl h.free ∙ ap (λ (c : Class). furthest_of c (free_until g s (piece s f.record))) h.class)

  -- a register was taken, so step 5 can follow
  pub took_held : (z : Turn) → Takes cap is ms ss ws f → t ≡ Some z → Finishing cap is ms ss ws₁ f.record z
  took_held z p q = went_held cap is ms ss ws ws₁ f.counts f.record z _ p.popping.inside p.popping.rows (y.taken 0 [] [] [] is z q)

  pub took_looking : (z : Turn) → Takes cap is ms ss ws f → t ≡ Some z → Looking cap is ws₁ f.record z
  took_looking z p q = held_looking cap is ms ss ws₁ f.record z (took_held z p q)

  pub settle_taken : (ws₂ : List ℕ) (z r : Turn) → t ≡ Some z → Finished cap m.strategy is ms ss ws₁ ws₂ f.record z r → Settling cap m is ms ss ws ws₂ f row (Some r)
  settle_taken ws₂ z r q b =
      record {
        taken = λ n cs rs fs h x i.
            let d : Did cap ms ss ws ws₁ f.counts z (allocate (stepping n m cs rs fs is ms ss cap) (state_of cap ws f.counts) f.record) = rw (sym (chosen n cs rs fs h)) (y.taken n cs rs fs is z q) in
            rw (← taken_only i) (settles cap n m cs rs fs is ms ss ws ws₁ ws₂ f.counts f.record z r _ d b);
        blocked = λ n cs rs fs h i. absurd (let e : ◌≡◌ {A = ℕ} 0 1 = cc in omega arith);
        kept = λ i. absurd (let e : ◌≡◌ {A = ℕ} 0 1 = cc in omega arith);
      }

  -- nothing is left for step 5
  pub settle_past : (z : Turn) (b : Bool) → Takes cap is ms ss ws f → t ≡ Some z → Past cap is ws₁ f.record z b → b ≡ true → Settling cap m is ms ss ws ws₁ f row (Some z)
  settle_past z b p q w e = settle_taken ws₁ z z q (finish_past cap m.strategy is ms ss ws₁ f.record z b (took_held z p q) w e)

  pub settle_none : t ≡ None → Settling cap m is ms ss ws ws₁ f row None
  settle_none q =
      record {
        taken = λ n cs rs fs h x i. absurd (let e : ◌≡◌ {A = ℕ} 0 1 = cc in omega arith);
        blocked = λ n cs rs fs h i.
            let g : Given = stepping n m cs rs fs is ms ss cap in
            ap (λ (o : Outcome). go_on o (λ u. handle_safepoints g u f.record)) (sym (chosen n cs rs fs h) ∙ y.blocked n cs rs fs is q);
        kept = λ i. y.kept q;
      }

pub takes_parting : (cap : ℕ) (is ms ss ws : List ℕ) (f : Front) → Takes cap is ms ss ws f → Parting cap ms ss ws f.counts f.record
takes_parting cap is ms ss ws f p = record { ready = p.popping.ready; fit = p.popping.fit; inside = p.popping.inside; room = p.popping.room }

-- ---- steps 4 and 5
module _ (cap n : ℕ) (m : Mode) (cs rs fs is ms ss ws ws₁ : List ℕ) (c : Counts) (u : Tracker) (k : ℕ) (x : Turn) (p : Stepping cap cs rs fs is ms ss ws c u k)
    (d : Did cap ms ss ws ws₁ c x (allocate_blocked (stepping n m cs rs fs is ms ss cap) (state_of cap ws c) k)) where
  pub contend_held : Finishing cap is ms ss ws₁ k x
  contend_held = went_held cap is ms ss ws ws₁ c k x _ p.inside p.rows d

  pub contends : (ws₂ : List ℕ) (r : Turn) → Finished cap m.strategy is ms ss ws₁ ws₂ k x r → Did cap ms ss ws ws₂ c r (contended (stepping n m cs rs fs is ms ss cap) (state_of cap ws c) k)
  contends ws₂ r b = settles cap n m cs rs fs is ms ss ws ws₁ ws₂ c k x r _ d b
