-- Steps 2 and 3 in the work area are those of the rules.
-- Assumes nothing.
use Rattle.rules.specs.declared.RegPos.{RegPos}
use Rattle.std.specs.Prelude.{Option, None, Some, Ok, Err}
use Prim.Native.Nat.{ℕ, ◌≤◌, ◌<◌}
use mathlib.Core.Path.{◌≡◌, refl, sym, ap, ◌∙◌}
use mathlib.Core.Bool.{Bool, true, false}
use mathlib.Core.List.{List, []}
use native.Mathlib.Omega.{arith}
use lib.ListN.{length}
use lib.Dec.{ltb}
use borrow.Author.Tests.{le-ltb}
use Rattle.words.specs.Choose.{choose}
use Rattle.rules.specs.declared.Refusal.{Refusal}
use Rattle.rules.specs.Steps.{Choice}
use Rattle.rules.specs.declared.Mode.{Mode}
use Rattle.rules.specs.declared.Piece.{Piece}
use Rattle.rules.specs.declared.Pos.{Pos}
use Rattle.rules.specs.declared.Pos.TheVariants.{Blocked, At, Never}
use Rattle.rules.specs.declared.Strategy.TheVariants.{From}
use Rattle.rules.specs.State.{Given, State, Outcome, goes, go_on, piece}
use Rattle.rules.specs.Split.{split_and_queue}
use Rattle.rules.specs.Steps.{take_register, allocate_blocked, take_until, try_at, try_take}
use Rattle.store.specs.declared.Counts.{Counts}
use Rattle.store.specs.StateOf.{state_of}
use Rattle.store.proofs.StateLaws.{records_are}
use Rattle.split.specs.Turns.{Turn}
use Rattle.split.specs.Fit.{Fit}
use Rattle.split.specs.Turns.{cutting, outcome_of, Does}
use Rattle.split.proofs.NarrowLaws.{queue_any}
use Rattle.split.proofs.TurnLaws.{on_goes, on_went, off_stops}
use Rattle.steps.specs.Stepping.{stepping, Parting, Taking, Took, Tries, grant_part, grant_until, grant_at, grant_of, partial_at, take_part, ended, refused, Did}
use Rattle.steps.specs.declared.Grant.{Grant}
use Rattle.steps.specs.declared.Grant.TheVariants.{Whole, Part}
use Rattle.steps.proofs.TakingLaws.{fit_take}

module _ (cap : ℕ) (ms ss : List ℕ) where
  -- a register taken is a step done
  pub took_whole : (ws ws' : List ℕ) (c d : Counts) (k r : ℕ) → Fit ms ss (state_of cap ws c).pieces → k < length (state_of cap ws c).pieces → Took cap ws ws' c d k r
      → Did cap ms ss ws ws' c (Ok d) (goes (take_register (state_of cap ws c) k r))
  unfolding outcome_of
  took_whole ws ws' c d k r f l t =
      record {
        meets = ap goes t.after.is;
        ends =
            ended d
            (record {
              ready = t.after.ready;
              fit = rw t.after.is (fit_take cap [] ms ss (state_of cap ws c) k r l f);
              records = omega (arith, t.after.records);
              intervals = t.after.intervals;
            });
        long = t.after.long;
      }

  -- ---- a part
  module _ (ws ws₁ : List ℕ) (c : Counts) (k r p : ℕ) (x : Turn) where
    pub parted_taking : (d : Counts) (o : Outcome) → Parting cap ms ss ws c k → Does cap ms ss ws ws₁ c x o → x ≡ Ok d → Taking cap ws₁ d k
    parted_taking d o h t e =
        let w = on_went cap ms ss ws ws₁ c x d o t e in
        record { ready = w.ready; inside = omega (arith, h.inside, w.records); room = omega (arith, h.room, w.slack) }

    pub part_taken : (ws₂ : List ℕ) (d e : Counts) → Parting cap ms ss ws c k → Does cap ms ss ws ws₁ c x (split_and_queue (cutting From [] ms ss cap) (state_of cap ws c) k p) → x ≡ Ok d
        → Took cap ws₁ ws₂ d e k r → Did cap ms ss ws ws₂ c (Ok e) (take_part ms ss cap (state_of cap ws c) k r p)
    part_taken ws₂ d e h t i u =
        let w = on_went cap ms ss ws ws₁ c x d _ t i in
        let v = took_whole ws₁ ws₂ d e k r w.fit (rw (records_are cap ws₁ d w.ready) (omega (arith, h.inside, w.records))) u in
        record {
          meets = rw (on_goes cap ms ss ws ws₁ c x d _ t i) v.meets;
          ends =
              ended e
              (record {
                ready = u.after.ready;
                fit = rw u.after.is (fit_take cap [] ms ss (state_of cap ws₁ d) k r (rw (records_are cap ws₁ d w.ready) (omega (arith, h.inside, w.records))) w.fit);
                records = omega (arith, u.after.records, w.records);
                intervals = u.after.intervals ∙ w.intervals;
              });
          long = u.after.long ∙ t.long;
        }

    pub part_off : (a : Refusal) → Does cap ms ss ws ws₁ c x (split_and_queue (cutting From [] ms ss cap) (state_of cap ws c) k p) → x ≡ Err a
        → Did cap ms ss ws ws₁ c (Err a) (take_part ms ss cap (state_of cap ws c) k r p)
    unfolding outcome_of
    part_off a t i = record { meets = rw (off_stops cap ms ss ws ws₁ c x a _ t i); ends = refused a; long = t.long }

-- ---- what is granted
module _ (m : Mode) (ms : List ℕ) (q q' : Piece) (g : q ≡ q') (r a : ℕ) where
  module _ (h : a ≤ q.end) (x : Option ℕ) (f : x ≡ partial_at m ms q a) where
    pub until_part : (p : ℕ) → x ≡ Some p → Some (Part r p) ≡ grant_until m ms q' r a
    unfolding grant_part
    until_part p j = rw (← g, le-ltb q.end a h, ← f, j) refl

    pub until_none : x ≡ None → None ≡ grant_until m ms q' r a
    unfolding grant_part
    until_none j = rw (← g, le-ltb q.end a h, ← f, j) refl

module _ (m : Mode) (ms : List ℕ) (q : Piece) (x : Choice) where
  pub grant_none : x ≡ None → None ≡ grant_of m ms q x
  unfolding grant_of
  grant_none e = rw e refl

  module _ (y : RegPos) (e : x ≡ Some y) where
    pub grant_blocked : y.pos ≡ Blocked → None ≡ grant_of m ms q x
    unfolding grant_of grant_at
    grant_blocked f = rw (e, f) refl

    pub grant_point : (a : ℕ) (o : Option Grant) → y.pos ≡ At a → o ≡ grant_until m ms q y.register a → o ≡ grant_of m ms q x
    unfolding grant_of grant_at
    grant_point a o f g = rw (e, f) g

    pub grant_never : y.pos ≡ Never → Some (Whole y.register) ≡ grant_of m ms q x
    unfolding grant_of grant_at
    grant_never f = rw (e, f) refl

-- what the rules do with what is granted
abbrev by_grant : Given → State → ℕ → Option Grant → Outcome
by_grant g s k (Some (Whole r)) = goes (take_register s k r)
by_grant g s k (Some (Part r p)) = go_on (split_and_queue g s k p) (λ t. goes (take_register t k r))
by_grant g s k None = allocate_blocked g s k

by_part : (g : Given) (s : State) (k r : ℕ) (x : Option ℕ) → take_until g s k r x ≡ by_grant g s k (grant_part r x)
unfolding take_until grant_part
by_part g s k r (Some p) = refl
by_part g s k r None = refl

by_until : (g : Given) (s : State) (k r : ℕ) (b : Bool) (x : Option ℕ) → choose b (goes (take_register s k r)) (take_until g s k r x) ≡ by_grant g s k (choose b (Some (Whole r)) (grant_part r x))
by_until g s k r true x = refl
by_until g s k r false x = by_part g s k r x

by_at : (n : ℕ) (m : Mode) (cs rs fs is ms ss : List ℕ) (cap : ℕ) (s : State) (k r : ℕ) (p : Pos)
    → try_at (stepping n m cs rs fs is ms ss cap) s k r p ≡ by_grant (stepping n m cs rs fs is ms ss cap) s k (grant_at m ms (piece s k) r p)
unfolding try_at grant_at
by_at n m cs rs fs is ms ss cap s k r Blocked = refl
by_at n m cs rs fs is ms ss cap s k r (At a) = by_until (stepping n m cs rs fs is ms ss cap) s k r (ltb (piece s k).end a) (partial_at m ms (piece s k) a)
by_at n m cs rs fs is ms ss cap s k r Never = refl

by_grant_lem : (n : ℕ) (m : Mode) (cs rs fs is ms ss : List ℕ) (cap : ℕ) (s : State) (k : ℕ) (x : Choice)
    → try_take (stepping n m cs rs fs is ms ss cap) s k x ≡ by_grant (stepping n m cs rs fs is ms ss cap) s k (grant_of m ms (piece s k) x)
unfolding try_take grant_of
by_grant_lem n m cs rs fs is ms ss cap s k None = refl
by_grant_lem n m cs rs fs is ms ss cap s k (Some e) = by_at n m cs rs fs is ms ss cap s k e.register e.pos

-- ---- what was tried
pub taken_only : {z z' : Turn} → Some z ≡ Some z' → z ≡ z'
taken_only e = cc

module _ (cap : ℕ) (m : Mode) (ms ss ws : List ℕ) (c : Counts) (k : ℕ) (x : Choice) (gr : Option Grant) (e : gr ≡ grant_of m ms (piece (state_of cap ws c) k) x) where
  -- what the rules do, by what was granted
  done : (n : ℕ) (cs rs fs is : List ℕ) (y : Option Grant) → gr ≡ y → try_take (stepping n m cs rs fs is ms ss cap) (state_of cap ws c) k x ≡ by_grant (stepping n m cs rs fs is ms ss cap) (state_of cap ws c) k y
  done n cs rs fs is y f = by_grant_lem n m cs rs fs is ms ss cap (state_of cap ws c) k x ∙ ap (by_grant (stepping n m cs rs fs is ms ss cap) (state_of cap ws c) k) (sym e ∙ f)

  pub tries_whole : (ws' : List ℕ) (r : ℕ) (d : Counts) → Parting cap ms ss ws c k → gr ≡ Some (Whole r) → Took cap ws ws' c d k r → Tries cap m ms ss ws ws' c k x (Some (Ok d))
  tries_whole ws' r d h f u =
      record {
        taken = λ n cs rs fs is z i.
            let v = took_whole cap ms ss ws ws' c d k r h.fit (rw (records_are cap ws c h.ready) h.inside) u in
            rw (← taken_only i, done n cs rs fs is (Some (Whole r)) f) v;
        blocked = λ n cs rs fs is i. absurd (let q : ◌≡◌ {A = ℕ} 0 1 = cc in omega arith);
        kept = λ i. absurd (let q : ◌≡◌ {A = ℕ} 0 1 = cc in omega arith);
      }

  pub tries_part : (ws' : List ℕ) (r p : ℕ) (w : Turn) → gr ≡ Some (Part r p) → Did cap ms ss ws ws' c w (take_part ms ss cap (state_of cap ws c) k r p) → Tries cap m ms ss ws ws' c k x (Some w)
  tries_part ws' r p w f d =
      record {
        taken = λ n cs rs fs is z i. rw (← taken_only i, done n cs rs fs is (Some (Part r p)) f, queue_any (stepping n m cs rs fs is ms ss cap) (state_of cap ws c) k p) d;
        blocked = λ n cs rs fs is i. absurd (let q : ◌≡◌ {A = ℕ} 0 1 = cc in omega arith);
        kept = λ i. absurd (let q : ◌≡◌ {A = ℕ} 0 1 = cc in omega arith);
      }

  pub tries_none : gr ≡ None → Tries cap m ms ss ws ws c k x None
  tries_none f =
      record {
        taken = λ n cs rs fs is z i. absurd (let q : ◌≡◌ {A = ℕ} 0 1 = cc in omega arith);
        blocked = λ n cs rs fs is i. done n cs rs fs is None f;
        kept = λ i. refl;
      }
