-- The states of a run at the head of its loop, with the last start popped (0 before the first pop); the keys that a run pops, in order. Facts for proofs and for the code's main loop.
use Rattle.std.specs.Prelude.{ℕ, zero, suc, ◌/◌, ◌≡◌, ◌≢◌}
use mathlib.Core.List.{List, [], ◌∷◌, Memᴰ}
use Rattle.rules.specs.State.{Given, State, Outcome, goes, stops, with_queue, record_of_key}
use Rattle.rules.specs.Steps.{step}
use Rattle.rules.specs.Run.{begin}

pub data Reached (g : Given) : ℕ → State → Type 0 where
  begins : Reached g 0 (begin g.tables.intervals)
  pops : (l : ℕ) (s : State) (x : ℕ) (xs : List ℕ) (t : State) → Reached g l s → s.queue ≡ x ∷ xs → step g (with_queue xs s) (record_of_key x) ≡ goes t → Reached g (x / 16384) t

-- a run from s with `fuel` pops before it comes to u with `left` of them
pub data Passes (g : Given) : ℕ → State → ℕ → State → Type 0 where
  here : (fuel : ℕ) (s : State) → Passes g fuel s fuel s
  later : (fuel : ℕ) (s : State) (x : ℕ) (xs : List ℕ) (t : State) (left : ℕ) (u : State) → s.queue ≡ x ∷ xs → step g (with_queue xs s) (record_of_key x) ≡ goes t → Passes g fuel t left u → Passes g (suc fuel) s left u

abbrev pub pops_from : List ℕ → (ℕ → List ℕ → List ℕ) → List ℕ
pops_from [] f = []
pops_from (x ∷ xs) f = x ∷ f x xs

abbrev pub onwards : Outcome → (State → List ℕ) → List ℕ
onwards (goes t) f = f t
onwards (stops a) f = []

unfoldable pub pops_of : ℕ → Given → State → List ℕ
pops_of zero g s = []
pops_of (suc fuel) g s = pops_from s.queue (λ x xs. onwards (step g (with_queue xs s) (record_of_key x)) (λ t. pops_of fuel g t))

-- no record twice
abbrev pub Once : List ℕ → Type 0
Once [] = Unit
Once (x ∷ xs) = ((y : ℕ) → Memᴰ y xs → record_of_key y ≢ record_of_key x) × Once xs

-- "every queued record was popped, once": of a run with `fuel` pops before it from s
pub record PoppedOnce (g : Given) (fuel : ℕ) (s : State) : Type 0 where
  pub once : Once (pops_of fuel g s)
  pub every : (left : ℕ) (u : State) → Passes g fuel s left u → (y : ℕ) → Memᴰ y u.queue → Memᴰ y (pops_of fuel g s)
