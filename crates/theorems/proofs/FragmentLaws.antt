-- The fragments of a register: what is not fixed-active at S, and has its first start in S..end at b, meets nothing of S..b - 1.
-- Assumes accepted tables.
use Prim.Native.Nat.{ℕ, ◌≤◌, ◌<◌}
use mathlib.Core.Path.{◌≡◌, refl, sym, ap, ◌∙◌}
use mathlib.Core.Bool.{Bool, true, false, ◌&&◌}
use mathlib.Core.List.Memᴰ
use mathlib.Core.List.{List, [], ◌∷◌, Memᴰ}
use native.Mathlib.Omega.{arith}
use native.Mathlib.Decide.{dec_lt}
use borrow.Author.Tests.{leb-true, leb-false, le-leb}
use lib.Dec.{leb}
use lib.ListN.{length, get_or}
use Rattle.words.specs.Choose.{choose}
use Rattle.words.specs.Points.{within}
use Rattle.words.specs.Packed.{fragment_in, register_at, part, interval_count}
use Rattle.rules.specs.declared.Pos.{Pos}
use Rattle.rules.specs.declared.Pos.TheVariants.{Blocked, At, Never}
use Rattle.rules.specs.Tables.{Tables}
use Rattle.rules.specs.Accepted.{InRange, fragment, interval, Accepted}
use Rattle.rules.specs.Positions.{lower_of}
use Rattle.rules.specs.Steps.{fixed_active, first_start}
use Rattle.theorems.specs.Invariant.{Unfixed, Usable}
use Rattle.theorems.proofs.ListLaws.{part_has, part_is}
use Rattle.theorems.proofs.UseLaws.{or_false}

-- a test of bounds
pub within_true : (a e p : ℕ) → within a e p ≡ true → (a ≤ p) × (p ≤ e)
within_true a e p h = go (leb a p) (leb p e) refl refl h
  where
    go : (b c : Bool) → leb a p ≡ b → leb p e ≡ c → b && c ≡ true → (a ≤ p) × (p ≤ e)
    go true true d k o = (leb-true a p d, leb-true p e k)
    go true false d k o = let z : ◌≡◌ {A = ℕ} 0 1 = cc in absurd (omega arith)
    go false c d k o = let z : ◌≡◌ {A = ℕ} 0 1 = cc in absurd (omega arith)

pub within_false : (a e p : ℕ) → within a e p ≡ false → a ≤ p → p ≤ e → ⊥
within_false a e p h u v = let z : ◌≡◌ {A = Bool} true false = sym (rw (le-leb a p u) (le-leb p e v)) ∙ h in let o : ◌≡◌ {A = ℕ} 0 1 = cc in omega arith

-- no fragment contains S
pub not_fixed : (S : ℕ) (ws : List ℕ) → fixed_active S ws ≡ false → (w : ℕ) → Memᴰ w ws → (fragment_in w).first ≤ S → S ≤ (fragment_in w).last → ⊥
unfolding fixed_active
not_fixed S [] e w x4 u v = elim x4 [ ]
not_fixed S (x ∷ ws) e w (Memᴰ.head d) u v = within_false (fragment_in w).first (fragment_in w).last S (rw d (or_false (within (fragment_in x).first (fragment_in x).last S) (fixed_active S ws) e).0) u v
not_fixed S (x ∷ ws) e w (Memᴰ.tail m) u v = not_fixed S ws (or_false (within (fragment_in x).first (fragment_in x).last S) (fixed_active S ws) e).1 w m u v

-- the first start in S..e is the least of those that are there
module _ (S e : ℕ) where
  pub record Starts (ws : List ℕ) (b : ℕ) : Type 0 where
    pub from : S ≤ b
    pub upto : b ≤ e
    pub who : ℕ
    pub has : Memᴰ who ws
    pub is : (fragment_in who).first ≡ b
    pub least : (w : ℕ) → Memᴰ w ws → S ≤ (fragment_in w).first → (fragment_in w).first ≤ e → b ≤ (fragment_in w).first

  abbrev pub StartIs : List ℕ → Pos → Type 0
  StartIs ws Blocked = ⊥
  StartIs ws (At b) = Starts ws b
  StartIs ws Never = (w : ℕ) → Memᴰ w ws → S ≤ (fragment_in w).first → (fragment_in w).first ≤ e → ⊥

  pub start_is : (ws : List ℕ) → StartIs ws (first_start S e ws)
  unfolding first_start
  start_is [] = λ w m u v. Memᴰ.not-nil m
  start_is (x ∷ ws) = go (within S e (fragment_in x).first) refl (first_start S e ws) (start_is ws)
    where
      skip : (S ≤ (fragment_in x).first → (fragment_in x).first ≤ e → ⊥) → (p : Pos) → StartIs ws p → StartIs (x ∷ ws) p
      skip n Blocked k = k
      skip n Never k = by
        where
          by : (w : ℕ) → Memᴰ w (x ∷ ws) → S ≤ (fragment_in w).first → (fragment_in w).first ≤ e → ⊥
          by w (Memᴰ.head d) u v = n (rw d at u) (rw d at v)
          by w (Memᴰ.tail m) u v = k w m u v
      skip n (At b) k = record { from = k.from; upto = k.upto; who = k.who; has = Memᴰ.tail k.has; is = k.is; least = by }
        where
          by : (w : ℕ) → Memᴰ w (x ∷ ws) → S ≤ (fragment_in w).first → (fragment_in w).first ≤ e → b ≤ (fragment_in w).first
          by w (Memᴰ.head d) u v = absurd (n (rw d at u) (rw d at v))
          by w (Memᴰ.tail m) u v = k.least w m u v

      here : (S ≤ (fragment_in x).first) × ((fragment_in x).first ≤ e) → ((w : ℕ) → Memᴰ w ws → S ≤ (fragment_in w).first → (fragment_in w).first ≤ e → (fragment_in x).first ≤ (fragment_in w).first) → Starts (x ∷ ws) (fragment_in x).first
      here o f = record { from = o.0; upto = o.1; who = x; has = Memᴰ.head refl; is = refl; least = by }
        where
          by : (w : ℕ) → Memᴰ w (x ∷ ws) → S ≤ (fragment_in w).first → (fragment_in w).first ≤ e → (fragment_in x).first ≤ (fragment_in w).first
          by w (Memᴰ.head d) u v = rw d (omega arith)
          by w (Memᴰ.tail m) u v = f w m u v

      there : (b : ℕ) → b < (fragment_in x).first → Starts ws b → Starts (x ∷ ws) b
      there b l k = record { from = k.from; upto = k.upto; who = k.who; has = Memᴰ.tail k.has; is = k.is; least = by }
        where
          by : (w : ℕ) → Memᴰ w (x ∷ ws) → S ≤ (fragment_in w).first → (fragment_in w).first ≤ e → b ≤ (fragment_in w).first
          by w (Memᴰ.head d) u v = rw d (omega arith)
          by w (Memᴰ.tail m) u v = k.least w m u v

      both : (S ≤ (fragment_in x).first) × ((fragment_in x).first ≤ e) → (p : Pos) → StartIs ws p → StartIs (x ∷ ws) (lower_of (At (fragment_in x).first) p)
      both o Blocked k = k
      both o Never k = here o (λ w m u v. absurd (k w m u v))
      both o (At b) k = which (leb (fragment_in x).first b) refl
        where
          which : (c : Bool) → leb (fragment_in x).first b ≡ c → StartIs (x ∷ ws) (choose c (At (fragment_in x).first) (At b))
          which true d = here o (λ w m u v. omega (arith, leb-true (fragment_in x).first b d, k.least w m u v))
          which false d = there b (leb-false (fragment_in x).first b d) k

      go : (c : Bool) → within S e (fragment_in x).first ≡ c → (p : Pos) → StartIs ws p → StartIs (x ∷ ws) (choose c (lower_of (At (fragment_in x).first) p) p)
      go true d p k = both (within_true S e (fragment_in x).first d) p k
      go false d p k = skip (within_false S e (fragment_in x).first d) p k

module _ (T : Tables) (ok : Accepted T) where
  -- a register of a class is in the table
  pub in_table : (v r : ℕ) → v < interval_count T.intervals → Usable T v r → r < length T.registers
  in_table v r h u = omega (arith, u.below, (ok.classes (interval T v).class (ok.intervals v h).class).inside)

  module _ (r S e : ℕ) (h : r < length T.registers) (off : fixed_active S (part (register_at T.registers r) T.fragments) ≡ false) where
    -- a fragment that meets S.. starts above S
    starts_above : (f : ℕ) → InRange (register_at T.registers r) f → (x : ℕ) → S ≤ x → (fragment T f).first ≤ x → x ≤ (fragment T f).last → S < (fragment T f).first
    starts_above f a x u v w =
        elim (dec_lt S (fragment T f).first) [
          | yes d ↦ d
          | no d ↦ absurd (not_fixed S (part (register_at T.registers r) T.fragments) off (get_or T.fragments f 0) (part_has (register_at T.registers r) T.fragments (ok.fixed r h).inside f a) (omega arith) (omega arith))
        ]

    pub unfixed_never : first_start S e (part (register_at T.registers r) T.fragments) ≡ Never → Unfixed T r S e
    unfixed_never d f a x u v y z =
        let k : StartIs S e (part (register_at T.registers r) T.fragments) Never = rw d at (start_is S e (part (register_at T.registers r) T.fragments)) in
        let o = starts_above f a x u y z in
        k (get_or T.fragments f 0) (part_has (register_at T.registers r) T.fragments (ok.fixed r h).inside f a) (omega arith) (omega arith)

    pub unfixed_at : (b : ℕ) → first_start S e (part (register_at T.registers r) T.fragments) ≡ At b → (S < b) × (b ≤ e) × ((y : ℕ) → y < b → Unfixed T r S y)
    unfixed_at b d = (
      elim (dec_lt S b) [ yes c ↦ c | no c ↦ let j = part_is (register_at T.registers r) T.fragments (ok.fixed r h).inside k.has in let eb : (fragment T j.0).first ≡ b = ap (λ (w : ℕ). (fragment_in w).first) (sym j.2) ∙ k.is in let up = (ok.fixed r h).ordered j.0 j.1 in absurd (let o = starts_above j.0 j.1 b k.from (omega arith) (omega arith) in omega arith) ],
      k.upto,
      λ y l f a x u v p q. let o = starts_above f a x u p q in let m = k.upto in let w = k.least (get_or T.fragments f 0) (part_has (register_at T.registers r) T.fragments (ok.fixed r h).inside f a) (omega arith) (omega arith) in omega arith,
    )
      where
        k : Starts S e (part (register_at T.registers r) T.fragments) b
        k = rw d at (start_is S e (part (register_at T.registers r) T.fragments))
