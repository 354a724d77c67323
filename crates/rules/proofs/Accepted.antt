-- The checks 3 to 8 give sound tables: what passes them is Accepted.
-- Assumes nothing.
use Rattle.std.specs.Prelude.{None, Err}
use Prim.Native.Nat.{ℕ, ◌+◌, ◌-◌, ◌*◌, ◌%◌, ◌≤◌, ◌<◌}
use mathlib.Core.Path.{◌≡◌, refl}
use mathlib.Core.Bool.{Bool, true, false, ◌&&◌, ◌||◌, not}
use mathlib.Core.List.{List, [], ◌∷◌, ◌++◌, Memᴰ}
use native.Mathlib.Omega.{arith}
use lib.ListN.{length, get_or, take}
use lib.Dec.{ltb, leb, eqb}
use borrow.Author.Tests.{ltb-true, leb-true, eqb-true, lt-ltb, le-ltb, eq-eqb}
use Rattle.words.specs.Choose.{choose}
use Rattle.words.specs.Points.{use_point, def_point, within}
use Rattle.words.specs.Packed.{class_at, register_at, interval_words, interval_count, part}
use Rattle.words.specs.declared.Class.{Class}
use Rattle.words.specs.declared.Range.{Range}
use Rattle.words.specs.declared.Interval.{Interval}
use Rattle.words.specs.declared.Mention.{Mention}
use Rattle.rules.specs.declared.Refusal.TheVariants.{OverLimit, BadClass, BadInterval, BadMention, BadSafepoint, BadFixed}
use Rattle.rules.specs.Answers.{fine, Check}
use Rattle.rules.specs.Tables.{Tables}
use Rattle.rules.specs.Uses.{at_def, points_in}
use Rattle.rules.specs.Sound.{every, and_then, refuse_at, in_limits, check_limits, count_sum, scratch_good, class_good, bad_class, interval_good, bad_interval, ascends, mention_good, bad_mention, not_used_alone, safepoint_good, bad_safepoint, fragments_good, register_good, bad_fixed, check_tables}
use Rattle.rules.specs.Accepted.{InRange, mention, safepoint, interval, Limits, ClassSound, IntervalSound, MentionsSound, SafepointsSound, FixedSound, Accepted}
use Rattle.rules.proofs.AcceptedLaws.{and_left, and_right, then_left, then_right, refuse_fine, else_left, first_clean, first_good, every_mem, every_at, part_long, part_at, all_ascend, count_within, fragment_ordered, fragment_below, fragments_ascend}

-- a test that holds gives each of its parts
ruleset parts = (and_left, and_right, leb-true, ltb-true, eqb-true)

limits_true : (b : Bool) → choose b fine (Err OverLimit) ≡ fine → b ≡ true
limits_true true e = refl
limits_true false e = cc

module _ (T : Tables) where
  -- 3
  limits_sound : in_limits T ≡ true → Limits T
  limits_sound e =
      record {
        instructions = search parts depth 9;
        some_class = search parts depth 9;
        classes = search parts depth 9;
        registers = search parts depth 9;
        fragments = search parts depth 9;
        intervals = search parts depth 9;
        rows = let m : length T.intervals % interval_words ≡ 0 = search parts depth 9 in omega arith;
        mentions = search parts depth 9;
        safepoints = search parts depth 9;
      }

  -- 4
  scratch_in : (c : Class) → scratch_good c ≡ true → 0 < c.count → (c.first ≤ c.scratch) × (c.scratch < c.first + c.count)
  scratch_in c e h =
      let d : c.scratched && leb c.first c.scratch && ltb c.scratch (c.first + c.count) ≡ true = rw (lt-ltb 0 c.count h) at e in
      (search parts depth 9, ltb-true _ _ (search parts depth 9))

  -- the sum of the counts is the register count: the last class says so
  sum_is : ((k : ℕ) → k < length T.classes → class_good T k ≡ true) → 1 ≤ length T.classes → count_sum T.classes ≡ length T.registers
  sum_is good h =
      let n : ℕ = length T.classes in
      let k : ℕ = n - 1 in
      let e : class_good T k ≡ true = good k (omega arith) in
      let d : ltb (k + 1) n || eqb (count_sum T.classes) (length T.registers) ≡ true = search parts depth 9 in
      eqb-true _ _ (rw (le-ltb (k + 1) n (omega arith)) at d)

  class_sound : ((k : ℕ) → k < length T.classes → class_good T k ≡ true) → (k : ℕ) → k < length T.classes → ClassSound T (class_at T.classes k)
  class_sound good k h =
      let c : Class = class_at T.classes k in
      let e : class_good T k ≡ true = good k h in
      let f : c.first ≡ count_sum (take k T.classes) = search parts depth 9 in
      let s : scratch_good c ≡ true = search parts depth 9 in
      record {
        inside = omega (arith, sum_is good (omega arith), count_within T.classes k h);
        scratch = scratch_in c s;
      }

  -- 5
  interval_sound : (v : ℕ) → interval_good T v ≡ true → IntervalSound T (interval T v)
  interval_sound v e =
      record {
        class = search parts depth 9;
        ordered = search parts depth 9;
        inside = search parts depth 9;
        mentions = search parts depth 9;
        safepoints = search parts depth 9;
      }

  -- 6: every mention of interval i is good
  module _ (i : Interval) (good : (j : ℕ) → InRange i.mentions j → mention_good T i j ≡ true) where
    mentions_sound : MentionsSound T i
    mentions_sound =
        record {
          pointed = λ j h. pointed_by (mention T j) (flagged j h);
          inside = λ j h p m. let w : within i.start i.end p ≡ true = every_mem (within i.start i.end) (points_in (mention T j)) (placed j h) p m in (search parts depth 9, search parts depth 9);
          ascending = all_ascend (λ k. (mention T k).instruction) i.mentions (λ j h. rising j h);
        }
      where
        flagged : (j : ℕ) → InRange i.mentions j → (mention T j).uses || (mention T j).mods || (mention T j).defs ≡ true
        flagged j h = let e = good j h in search parts depth 9

        placed : (j : ℕ) → InRange i.mentions j → every (within i.start i.end) (points_in (mention T j)) ≡ true
        placed j h = let e = good j h in search parts depth 9

        rising : (j : ℕ) → InRange i.mentions j → ascends (λ k. (mention T k).instruction) i.mentions j ≡ true
        rising j h = let e = good j h in search parts depth 9

        pointed_by : (m : Mention) → m.uses || m.mods || m.defs ≡ true → (p : ℕ) × Memᴰ p (points_in m)
        pointed_by m e = go m.uses m.mods m.defs e
          where
            go : (u o d : Bool) → u || o || d ≡ true → (p : ℕ) × Memᴰ p (choose (u || o) (use_point m.instruction ∷ []) [] ++ choose (o || d) (def_point m.instruction ∷ []) [])
            go true o d e = (use_point m.instruction, Memᴰ.head refl)
            go false true d e = (use_point m.instruction, Memᴰ.head refl)
            go false false true e = (def_point m.instruction, Memᴰ.head refl)
            go false false false e = absurd (let z : ◌≡◌ {A = ℕ} 0 1 = cc in omega arith)

  -- 7: every safepoint of interval i is good
  module _ (i : Interval) (within-table : i.mentions.index + i.mentions.count ≤ length T.mentions) (good : (j : ℕ) → InRange i.safepoints j → safepoint_good T i j ≡ true) where
    safepoints_sound : SafepointsSound T i
    safepoints_sound =
        record {
          reference = λ j h. let e = good j h in search parts depth 9;
          inside = λ j h. let e = good j h in (search parts depth 9, search parts depth 9);
          ascending = all_ascend (safepoint T) i.safepoints (λ j h. let e = good j h in search parts depth 9);
          redefined = redefined;
        }
      where
        every_mention : (j : ℕ) → InRange i.safepoints j → every (not_used_alone (safepoint T j)) (part i.mentions T.mentions) ≡ true
        every_mention j h = let e = good j h in search parts depth 9

        lone : (b u d : Bool) → b ≡ true → u ≡ true → not (b && u) || d ≡ true → d ≡ true
        lone true true d f g e = e
        lone true false d f g e = cc
        lone false u d f g e = cc

        redefined : (j k : ℕ) → InRange i.safepoints j → InRange i.mentions k → (mention T k).instruction ≡ safepoint T j → (mention T k).uses ≡ true → at_def (mention T k) ≡ true
        redefined j k h l e u =
            let long = part_long i.mentions T.mentions within-table in
            let at = every_at (not_used_alone (safepoint T j)) (part i.mentions T.mentions) (every_mention j h) (k - i.mentions.index) (omega arith) in
            let here : not_used_alone (safepoint T j) (get_or T.mentions k 0) ≡ true = rw (part_at i.mentions T.mentions k l) at at in
            lone (eqb (mention T k).instruction (safepoint T j)) (mention T k).uses (at_def (mention T k)) (eq-eqb _ _ e) u here

  -- 8
  fixed_sound : (r : ℕ) → register_good T r ≡ true → FixedSound T (register_at T.registers r)
  fixed_sound r e =
      record {
        inside = inside;
        ordered = λ f h. rw (part_at q T.fragments f h) at (fragment_ordered limit l good (f - q.index) (omega (arith, long)));
        below = λ f h. rw (part_at q T.fragments f h) at (fragment_below limit l good (f - q.index) (omega (arith, long)));
        ascending = λ f k h m n. rw (part_at q T.fragments f h, part_at q T.fragments k m) at (fragments_ascend limit l good (f - q.index) (k - q.index) (omega (arith, long)) (omega arith));
      }
    where
      q : Range
      q = register_at T.registers r

      limit : ℕ
      limit = 2 * T.instructions

      l : List ℕ
      l = part q T.fragments

      inside : q.index + q.count ≤ length T.fragments
      inside = search parts depth 9

      good : fragments_good limit l ≡ true
      good = search parts depth 9

      long : length l ≡ q.count
      long = part_long q T.fragments inside

-- each of the six checks passed
pub record Passes (T : Tables) : Type 0 where
  pub limits : check_limits T ≡ fine
  pub class : bad_class T ≡ None
  pub interval : bad_interval T ≡ None
  pub mention : bad_mention T ≡ None
  pub safepoint : bad_safepoint T ≡ None
  pub fixed : bad_fixed T ≡ None

pub passes : (T : Tables) → check_tables T ≡ fine → Passes T
unfolding check_tables
passes T e =
    let fixed : Check = refuse_at BadFixed (bad_fixed T) in
    let safepoint : Check = refuse_at BadSafepoint (bad_safepoint T) in
    let mention : Check = refuse_at BadMention (bad_mention T) in
    let interval : Check = refuse_at BadInterval (bad_interval T) in
    let class : Check = refuse_at BadClass (bad_class T) in
    let e4 = then_right (check_limits T) (and_then class (and_then interval (and_then mention (and_then safepoint fixed)))) e in
    let e5 = then_right class (and_then interval (and_then mention (and_then safepoint fixed))) e4 in
    let e6 = then_right interval (and_then mention (and_then safepoint fixed)) e5 in
    let e7 = then_right mention (and_then safepoint fixed) e6 in
    let e8 = then_right safepoint fixed e7 in
    record {
      limits = then_left (check_limits T) _ e;
      class = refuse_fine BadClass (bad_class T) (then_left class _ e4);
      interval = refuse_fine BadInterval (bad_interval T) (then_left interval _ e5);
      mention = refuse_fine BadMention (bad_mention T) (then_left mention _ e6);
      safepoint = refuse_fine BadSafepoint (bad_safepoint T) (then_left safepoint _ e7);
      fixed = refuse_fine BadFixed (bad_fixed T) e8;
    }

-- what a clean walk of each table says of each entry
pub class_good_lem : (T : Tables) → bad_class T ≡ None → (k : ℕ) → k < length T.classes → class_good T k ≡ true
unfolding bad_class
class_good_lem T e k h = first_good (class_good T) 0 (length T.classes) e k (omega arith) (omega arith)

pub interval_good_lem : (T : Tables) → bad_interval T ≡ None → (v : ℕ) → v < interval_count T.intervals → interval_good T v ≡ true
unfolding bad_interval
interval_good_lem T e v h = first_good (interval_good T) 0 (interval_count T.intervals) (else_left _ _ e) v (omega arith) (omega arith)

pub mention_good_lem : (T : Tables) → bad_mention T ≡ None → (v : ℕ) → v < interval_count T.intervals → (j : ℕ) → InRange (interval T v).mentions j → mention_good T (interval T v) j ≡ true
unfolding bad_mention
mention_good_lem T e v h j r =
    let i : Interval = interval T v in
    first_good (mention_good T i) i.mentions.index i.mentions.count (first_clean _ 0 (interval_count T.intervals) e v (omega arith) (omega arith)) j r.0 r.1

pub safepoint_good_lem : (T : Tables) → bad_safepoint T ≡ None → (v : ℕ) → v < interval_count T.intervals → (j : ℕ) → InRange (interval T v).safepoints j → safepoint_good T (interval T v) j ≡ true
unfolding bad_safepoint
safepoint_good_lem T e v h j r =
    let i : Interval = interval T v in
    first_good (safepoint_good T i) i.safepoints.index i.safepoints.count (first_clean _ 0 (interval_count T.intervals) e v (omega arith) (omega arith)) j r.0 r.1

pub register_good_lem : (T : Tables) → bad_fixed T ≡ None → (r : ℕ) → r < length T.registers → register_good T r ≡ true
unfolding bad_fixed
register_good_lem T e r h = first_good (register_good T) 0 (length T.registers) (else_left _ _ e) r (omega arith) (omega arith)

-- what each check gives
pub limits_kept : (T : Tables) → check_limits T ≡ fine → Limits T
unfolding check_limits
limits_kept T e = limits_sound T (limits_true (in_limits T) e)

pub intervals_kept : (T : Tables) → bad_interval T ≡ None → (v : ℕ) → v < interval_count T.intervals → IntervalSound T (interval T v)
intervals_kept T e v h = interval_sound T v (interval_good_lem T e v h)

pub mentions_kept : (T : Tables) → bad_mention T ≡ None → (v : ℕ) → v < interval_count T.intervals → MentionsSound T (interval T v)
mentions_kept T e v h = mentions_sound T (interval T v) (mention_good_lem T e v h)

-- Document 01, "Sound": tables that pass the checks 3 to 8 are sound.
pub accepted : (T : Tables) → check_tables T ≡ fine → Accepted T
accepted T e =
    let p : Passes T = passes T e in
    record {
      limits = limits_kept T p.limits;
      classes = class_sound T (class_good_lem T p.class);
      intervals = intervals_kept T p.interval;
      mentions = mentions_kept T p.mention;
      safepoints = λ v h. safepoints_sound T (interval T v) (intervals_kept T p.interval v h).mentions (safepoint_good_lem T p.safepoint v h);
      fixed = λ r h. fixed_sound T r (register_good_lem T p.fixed r h);
    }
