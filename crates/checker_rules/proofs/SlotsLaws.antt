-- Rule 6: a slot unit has one owner, and an interval one slot.
-- Assumes nothing.
use Prim.Native.Nat.{ℕ, zero, suc, ◌+◌, ◌-◌, ◌*◌, ◌%◌, ◌^◌, ◌<◌, ◌≤◌, max}
use lib.Dec.{eqb}
use Rattle.std.specs.Option.{option_eq}
use mathlib.Core.List.{List}
use mathlib.Core.Path.{◌≡◌, refl, sym, ◌∙◌, ap}
use mathlib.Core.Bool.{Bool, true, false}
use mathlib.Core.Logic.{◌⊎◌, inl, inr}
use native.Mathlib.Omega.{arith}
use native.Mathlib.Nat.{le_antisymm}
use native.Mathlib.Decide.{dec_lt, ℕ_discrete}
use lib.ListN.{length, get_or, set}
use lib.Seq.{get_or-set_same, get_or-set_other}
use Rattle.words.specs.declared.Interval.{Interval}
use Rattle.words.specs.declared.Record.{Record}
use Rattle.std.specs.declared.option.Option.{Option}
use Rattle.std.specs.declared.option.Option.TheVariants.{None, Some}
use Rattle.checker_rules.specs.Says.{Says}
use Rattle.checker_rules.specs.Entries.{kind_of, interval_of, number_of, size_at, Shown, Given}
use Rattle.checker_rules.specs.Slots.{Sized, Slot, Extends, Tops, Slots, Takes, Back, Placed, Unowned, Owned, PutBy}
use Rattle.checker_rules.specs.Decides.{Decides6}
use Rattle.checker_rules.proofs.SaysLaws.{says_false, says_eq}
use Rattle.checker_rules.proofs.BridgeLaws.{decides_6}

-- 1 shifted is the size, and no bit is lost
pub shifted : (log : ℕ) → log < 4 → Sized log (1 * 2 ^ log % 4294967296)
shifted zero h = record { is = refl; pos = omega arith; most = omega arith }
shifted (suc zero) h = record { is = refl; pos = omega arith; most = omega arith }
shifted (suc (suc zero)) h = record { is = refl; pos = omega arith; most = omega arith }
shifted (suc (suc (suc zero))) h = record { is = refl; pos = omega arith; most = omega arith }
shifted (suc (suc (suc (suc log)))) h = absurd (omega arith)

-- one record, after those below k
module _ (ws : List ℕ) (n k : ℕ) (is sl ow : List ℕ) (top : ℕ) (r : Record) (p : Placed ws k is sl ow top) (h : k < n) (s : Shown ws k r) where
  earlier : (j : ℕ) → Slot ws (k + 1) j → (j ≡ k → ⊥) → Slot ws k j
  earlier j o ne = record { real = omega (arith, o.real); kind = o.kind }

  lift : (j : ℕ) → Slot ws k j → Slot ws (k + 1) j
  lift j o = record { real = omega (arith, o.real); kind = o.kind }

  wide : (j : ℕ) → Slot ws k j → Slot ws n j
  wide j o = record { real = omega (arith, o.real); kind = o.kind }

  -- what holds of each slot record below k + 1
  split : (P : ℕ → Type 0) → ((j : ℕ) → Slot ws k j → P j) → (kind_of ws k ≡ 2 → P k) → (j : ℕ) → Slot ws (k + 1) j → P j
  split P f g j o = go (ℕ_discrete j k)
    where
      go : Dec (j ≡ k) → P j
      go (yes e) = rw e (g (rw e at o.kind))
      go (no e) = f j (earlier j o e)

  tops : (t : ℕ) → (t ≡ 0) ⊎ Tops ws k is t → (t ≡ 0) ⊎ Tops ws (k + 1) is t
  tops t (inl e) = inl e
  tops t (inr m) = inr (record { by = m.by; slot = lift m.by m.slot; ends = m.ends })

  backs : (v : ℕ) → Back ws k v → Back ws (k + 1) v
  backs v b = record { by = b.by; slot = lift b.by b.slot; names = b.names }

  module _ (ik : r.kind ≡ 2) (i : Interval) (z : ℕ) (gi : Given is r.interval i) (ez : Sized i.log_size z) where
    size : size_at is (interval_of ws k) ≡ z
    size = rw (← s.interval) (sym (ez.is ∙ gi.size))

    me : Slot ws n k
    me = record { real = h; kind = sym s.kind ∙ ik }

    module _ (old : ℕ) (eo : old ≡ get_or sl r.interval 0) where
      eold : old ≡ get_or sl (interval_of ws k) 0
      eold = rw (← s.interval) eo

      -- another slot than before
      pub put_differs : (old ≡ 0 → ⊥) → (old ≡ r.number + 1 → ⊥) → PutBy ws n (k + 1) is sl ow None
      put_differs nz ne =
          λ total u.
          let b : Back ws k (interval_of ws k) = p.back (interval_of ws k) (omega (arith, eold)) in
          let q : number_of ws b.by ≡ number_of ws k = u.one b.by k (wide b.by b.slot) me b.names in
          let g : get_or sl (interval_of ws k) 0 ≡ number_of ws b.by + 1 = rw b.names at (p.given b.by b.slot) in
          ne (omega (arith, eold, s.number))

      -- the same slot as before
      pub put_same : (old ≡ 0 → ⊥) → old ≡ r.number + 1 → r.number % z ≡ 0 → PutBy ws n (k + 1) is sl ow (Some top)
      put_same nz e f =
          let b : Back ws k (interval_of ws k) = p.back (interval_of ws k) (omega (arith, eold)) in
          let g : get_or sl (interval_of ws k) 0 ≡ number_of ws b.by + 1 = rw b.names at (p.given b.by b.slot) in
          let m : number_of ws b.by + size_at is (interval_of ws k) ≤ top = rw b.names at (p.most b.by b.slot) in
          record {
            given = split (λ j. get_or sl (interval_of ws j) 0 ≡ number_of ws j + 1) p.given (λ _. omega (arith, eold, s.number));
            fits = split (λ j. number_of ws j % size_at is (interval_of ws j) ≡ 0) p.fits (λ _. rw (size, ← s.number) f);
            back = λ v a. backs v (p.back v a);
            owns = p.owns;
            owned = p.owned;
            most = split (λ j. number_of ws j + size_at is (interval_of ws j) ≤ top) p.most (λ _. omega (arith, eold, s.number));
            reached = tops top p.reached;
          }

      module _ (free : old ≡ 0) (a b : ℕ) (ea : a ≡ r.number) (eb : b ≡ r.number + z) where
        none : get_or sl (interval_of ws k) 0 ≡ 0
        none = sym eold ∙ free

        at_a : a ≡ number_of ws k
        at_a = ea ∙ s.number

        at_b : b ≡ number_of ws k + size_at is (interval_of ws k)
        at_b = omega (arith, eb, s.number, size)

        -- a unit that another has
        pub put_clash : (c : Bool) → Says c (Unowned ow a b) → c ≡ false → PutBy ws n (k + 1) is sl ow None
        put_clash c d q = λ total u. d.fails q (record { bare = λ x l m. go total u x l m (ℕ_discrete (get_or ow x 0) 0) })
          where
            go : (total : ℕ) → Slots ws n is total → (x : ℕ) → a ≤ x → x < b → Dec (get_or ow x 0 ≡ 0) → get_or ow x 0 ≡ 0
            go total u x l m (yes e) = e
            go total u x l m (no e) =
                let v : ℕ = get_or ow x 0 - 1 in
                let t : Takes sl is (get_or ow x 0 - 1) x = p.owned (get_or ow x 0 - 1) x (omega arith) in
                let y : Back ws k (get_or ow x 0 - 1) = p.back (get_or ow x 0 - 1) t.pos in
                let g : get_or sl (get_or ow x 0 - 1) 0 ≡ number_of ws y.by + 1 = rw y.names at (p.given y.by y.slot) in
                let w : Extends ws is y.by x = record { from = omega (arith, t.from); to = rw y.names (omega (arith, t.to)) } in
                let same : interval_of ws y.by ≡ interval_of ws k
                = u.apart y.by k x (wide y.by y.slot) me w (record { from = omega (arith, at_a); to = omega (arith, at_b) }) in
                let gg : get_or sl (interval_of ws k) 0 ≡ number_of ws y.by + 1 = rw same at (p.given y.by y.slot) in
                absurd (let bot : ⊥ = omega (arith, none) in bot)

        module _ (x : ℕ) (ow' : List ℕ) (c : Bool) (room : r.interval < length sl) (f : r.number % z ≡ 0) (d : Says c (Unowned ow a b)) (q : c ≡ true)
            (name : ℕ) (en : name ≡ r.interval + 1) (o : Owned ow ow' a b name) (ex : x ≡ r.number + 1) where
          v : ℕ
          v = interval_of ws k

          bare : Unowned ow a b
          bare = d.holds q

          here : get_or (set sl (interval_of ws k) x) (interval_of ws k) 0 ≡ number_of ws k + 1
          here = get_or-set_same sl (interval_of ws k) x 0 (rw (← s.interval) room) ∙ ex ∙ ap (λ (y : ℕ). y + 1) s.number

          there : (u : ℕ) → (u ≡ interval_of ws k → ⊥) → get_or (set sl (interval_of ws k) x) u 0 ≡ get_or sl u 0
          there u ne = get_or-set_other sl (interval_of ws k) u x 0 ne

          -- a unit that was owned is none of the new ones
          kept : (u : ℕ) → 0 < get_or ow u 0 → get_or ow' u 0 ≡ get_or ow u 0
          kept u g = go (dec_lt u a) (dec_lt u b)
            where
              go : Dec (u < a) → Dec (u < b) → get_or ow' u 0 ≡ get_or ow u 0
              go (yes l) y = o.low u l
              go (no l) (yes y) = absurd (let bot : ⊥ = omega (arith, bare.bare u (omega arith) y) in bot)
              go (no l) (no y) = o.high u (omega arith)

          new : (t : ℕ) → top ≤ t → b ≤ t → (t ≡ top) ⊎ (t ≡ b) → Placed ws (k + 1) is (set sl (interval_of ws k) x) ow' t
          new t lt lb et =
              record {
                given = split (λ j. get_or (set sl (interval_of ws k) x) (interval_of ws j) 0 ≡ number_of ws j + 1) (λ j g. old_given j g (ℕ_discrete (interval_of ws j) (interval_of ws k))) (λ _. here);
                fits = split (λ j. number_of ws j % size_at is (interval_of ws j) ≡ 0) p.fits (λ _. rw (size, ← s.number) f);
                back = λ u g. back u g (ℕ_discrete u (interval_of ws k));
                owns = λ u y t. owns u y t (ℕ_discrete u (interval_of ws k));
                owned = λ u y e. owned u y e (dec_lt y a) (dec_lt y b);
                most = split (λ j. number_of ws j + size_at is (interval_of ws j) ≤ t) (λ j g. omega (arith, p.most j g)) (λ _. omega (arith, at_b));
                reached = reached et;
              }
            where
              old_given : (j : ℕ) → Slot ws k j → Dec (interval_of ws j ≡ interval_of ws k) → get_or (set sl (interval_of ws k) x) (interval_of ws j) 0 ≡ number_of ws j + 1
              old_given j g (yes e) =
                  let w : get_or sl (interval_of ws k) 0 ≡ number_of ws j + 1 = rw e at (p.given j g) in
                  absurd (let bot : ⊥ = omega (arith, none) in bot)
              old_given j g (no e) = there (interval_of ws j) e ∙ p.given j g

              back : (u : ℕ) → 0 < get_or (set sl (interval_of ws k) x) u 0 → Dec (u ≡ interval_of ws k) → Back ws (k + 1) u
              back u g (yes e) = record { by = k; slot = record { real = omega arith; kind = me.kind }; names = sym e }
              back u g (no e) = backs u (p.back u (rw (there u e) at g))

              owns : (u y : ℕ) → Takes (set sl (interval_of ws k) x) is u y → Dec (u ≡ interval_of ws k) → get_or ow' y 0 ≡ u + 1
              owns u y t (yes e) =
                  let t' : Takes (set sl (interval_of ws k) x) is (interval_of ws k) y = rw e at t in
                  o.inner y (omega (arith, here, t'.from, at_a)) (omega (arith, here, t'.to, at_b)) ∙ en ∙ ap (λ (i : ℕ). i + 1) (s.interval ∙ sym e)
              owns u y t (no e) =
                  let w : get_or ow y 0 ≡ u + 1 = p.owns u y (record { pos = rw (there u e) at t.pos; from = rw (there u e) at t.from; to = rw (there u e) at t.to }) in
                  kept y (omega arith) ∙ w

              former : (u y : ℕ) → get_or ow y 0 ≡ u + 1 → Takes (set sl (interval_of ws k) x) is u y
              former u y e = go (p.owned u y e) (ℕ_discrete u (interval_of ws k))
                where
                  go : Takes sl is u y → Dec (u ≡ interval_of ws k) → Takes (set sl (interval_of ws k) x) is u y
                  go t (yes w) = let g : 0 < get_or sl (interval_of ws k) 0 = rw w at t.pos in absurd (let bot : ⊥ = omega (arith, none) in bot)
                  go t (no w) = record { pos = rw (there u w) t.pos; from = rw (there u w) t.from; to = rw (there u w) t.to }

              owned : (u y : ℕ) → get_or ow' y 0 ≡ u + 1 → Dec (y < a) → Dec (y < b) → Takes (set sl (interval_of ws k) x) is u y
              owned u y e (yes l) m = former u y (sym (o.low y l) ∙ e)
              owned u y e (no l) (yes m) =
                  let w : u ≡ interval_of ws k = omega (arith, o.inner y (omega arith) m, en, s.interval) in
                  rw w record { pos = omega (arith, here); from = omega (arith, here, at_a); to = omega (arith, here, at_b) }
              owned u y e (no l) (no m) = former u y (sym (o.high y (omega arith)) ∙ e)

              reached : (t ≡ top) ⊎ (t ≡ b) → (t ≡ 0) ⊎ Tops ws (k + 1) is t
              reached (inl e) = rw e (tops top p.reached)
              reached (inr e) = inr (record { by = k; slot = record { real = omega arith; kind = me.kind }; ends = sym at_b ∙ sym e })

          -- a first slot, above all or not
          pub put_first : (m : ℕ) → m ≡ max top b → PutBy ws n (k + 1) is (set sl r.interval x) ow' (Some m)
          put_first m e = rw s.interval (new m (omega arith) (omega arith) (go (dec_lt top b)))
            where
              go : Dec (top < b) → (m ≡ top) ⊎ (m ≡ b)
              go (yes l) = inr (omega arith)
              go (no l) = inl (omega arith)

-- the rule
module _ (ws : List ℕ) (n : ℕ) (is sl ow : List ℕ) (total : ℕ) where
  module _ (top : ℕ) (p : Placed ws n is sl ow top) where
    -- the total is another
    other : (top ≡ total → ⊥) → Slots ws n is total → ⊥
    other ne u = ne (le_antisymm (low p.reached) (high u.reached))
      where
        low : (top ≡ 0) ⊎ Tops ws n is top → top ≤ total
        low (inl z) = omega arith
        low (inr m) = omega (arith, u.most m.by m.slot, m.ends)

        high : (total ≡ 0) ⊎ Tops ws n is total → total ≤ top
        high (inl z) = omega arith
        high (inr m) = omega (arith, p.most m.by m.slot, m.ends)

    -- it holds
    good : top ≡ total → Slots ws n is total
    good w =
        record {
          one = λ j k sj sk v. same j k sj sk v;
          fits = p.fits;
          apart = λ j k u sj sk cj ck. apart j k u sj sk cj ck;
          most = λ k s. rw (← w) (p.most k s);
          reached = rw w at p.reached;
        }
      where
        same : (j k : ℕ) → Slot ws n j → Slot ws n k → interval_of ws j ≡ interval_of ws k → number_of ws j ≡ number_of ws k
        same j k sj sk v = let a : get_or sl (interval_of ws k) 0 ≡ number_of ws j + 1 = rw v at (p.given j sj) in omega (arith, p.given k sk)

        takes : (j u : ℕ) → Slot ws n j → Extends ws is j u → Takes sl is (interval_of ws j) u
        takes j u sj c = record { pos = omega (arith, p.given j sj); from = omega (arith, p.given j sj, c.from); to = omega (arith, p.given j sj, c.to) }

        apart : (j k u : ℕ) → Slot ws n j → Slot ws n k → Extends ws is j u → Extends ws is k u → interval_of ws j ≡ interval_of ws k
        apart j k u sj sk cj ck = omega (arith, p.owns _ u (takes j u sj cj), p.owns _ u (takes k u sk ck))

  -- what the slot records come to decides it
  pub rule6_of : (r : Option ℕ) (b : Bool) → PutBy ws n n is sl ow r → b ≡ option_eq eqb r (Some total) → Decides6 ws n is total b
  rule6_of None b p e = rw e (decides_6 ws n is total false (says_false (p total)))
  rule6_of (Some top) b p e = rw e (decides_6 ws n is total (eqb top total) (says_eq top total (good top p) (other top p)))

  -- the same where they are told apart
  pub rule6_broken : {r : Option ℕ} → PutBy ws n n is sl ow r → r ≡ None → Decides6 ws n is total false
  rule6_broken {r} p q = rule6_of r false p (rw q refl)

  pub rule6_top : {r : Option ℕ} (top : ℕ) → PutBy ws n n is sl ow r → r ≡ Some top → Decides6 ws n is total (eqb top total)
  rule6_top {r} top p q = rule6_of r (eqb top total) p (rw q refl)
