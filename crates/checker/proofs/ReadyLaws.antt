-- Sound tables are what the rules' tests go by.
-- Assumes nothing.
use Prim.Native.Nat.{ℕ, ◌*◌, ◌/◌, ◌%◌, ◌^◌, ◌<◌, ◌≤◌}
use mathlib.Core.Path.{◌≡◌}
use native.Mathlib.Omega.{arith}
use lib.ListN.{length, get_or}
use lib.Pow.{shr_mod}
use Rattle.rules.specs.Tables.{Tables}
use Rattle.rules.specs.Accepted.{Accepted}
use Rattle.rules.specs.Placement.{Claim, Rule1, Rule3}
use Rattle.checker_rules.specs.Entries.{interval_of, class_of, start_of, end_of, mentions_from, mentions_to, safepoints_from, safepoints_to}
use Rattle.checker_rules.specs.Order.{Below}
use Rattle.checker_rules.specs.Tiles.{Within, Tiling}
use Rattle.checker_rules.specs.Housed.{Rows}
use Rattle.checker_rules.specs.Usable.{Classes}
use Rattle.checker_rules.specs.Lanes.{Registers}
use Rattle.checker_rules.specs.Fixed.{Runs}
use Rattle.checker_rules.specs.Safe.{Points}
use Rattle.checker_rules.proofs.BridgeLaws.{point_in, in_point, rule1_tiling, rule3_suits}
use Rattle.checker.specs.Verdict.{Ready}

-- mentions at ascending instructions ascend as words
word_up : (a b : ℕ) → a < 2 ^ 32 → b < 2 ^ 32 → a / 2 ^ 17 % 2 ^ 15 < b / 2 ^ 17 % 2 ^ 15 → a < b
word_up a b h l u =
    let x : a / 2 ^ 17 % 2 ^ 15 ≡ a / 2 ^ 17 = shr_mod 15 17 h in
    let y : b / 2 ^ 17 % 2 ^ 15 ≡ b / 2 ^ 17 = shr_mod 15 17 l in
    omega arith

module _ (T : Tables) (a : Accepted T) where
  -- intervals lie in the program
  within_of : Within T.intervals (T.instructions * 2)
  unfolding start_of end_of
  within_of =
      record {
        ordered = λ v h. (a.intervals v h).ordered;
        under = λ v h. omega (arith, (a.intervals v h).inside);
        most = omega (arith, a.limits.instructions);
      }

  -- mentions ascend, have points, and these lie in the interval
  rows_of : ((i : ℕ) → get_or T.mentions i 0 < 2 ^ 32) → Rows T.intervals T.mentions
  unfolding start_of end_of mentions_from mentions_to
  rows_of small =
      record {
        row = λ v h.
            record {
              rising =
                  record {
                    up = λ i j l u t. word_up _ _ (small i) (small j) ((a.mentions v h).ascending i j (l, omega arith) (omega arith, t) u);
                    order = omega arith;
                    within = (a.intervals v h).mentions;
                  };
              insts = λ i j l u t. (a.mentions v h).ascending i j (l, omega arith) (omega arith, t) u;
              pointed = λ i l u. let p = (a.mentions v h).pointed i (l, u) in record { at = p.0; is = in_point _ _ p.1 };
              small = small;
            };
        inside = λ v m p h l u o. (a.mentions v h).inside m (l, u) p (point_in _ p o);
      }

  -- classes exist, and end inside the register table
  classes_of : Classes T.intervals T.classes
  unfolding class_of
  classes_of = record { there = λ v h. (a.intervals v h).class }

  -- each register's fragments ascend
  runs_of : ((i : ℕ) → get_or T.fragments i 0 < 2 ^ 32) → Runs T.registers T.fragments
  runs_of small =
      record {
        run = λ q h.
            record {
              order = omega arith;
              within = (a.fixed q h).inside;
              whole = λ j l u. (a.fixed q h).ordered j (l, u);
              apart = λ i j l u t. (a.fixed q h).ascending i j (l, omega arith) (omega arith, t) u;
              small = small;
            };
      }

  -- safepoints ascend
  points_of_lem : Points T.intervals T.safepoints
  unfolding safepoints_from safepoints_to
  points_of_lem =
      record {
        row = λ v h.
            record {
              up = λ i j l u t. (a.safepoints v h).ascending i j (l, omega arith) (omega arith, t) u;
              order = omega arith;
              within = (a.intervals v h).safepoints;
            };
      }

  pub ready : (c : Claim) → c.count ≤ 16384 → c.count * 2 ≤ length c.words → ((i : ℕ) → get_or T.mentions i 0 < 2 ^ 32) → ((i : ℕ) → get_or T.fragments i 0 < 2 ^ 32) → Ready T c
  ready c f t m g =
      record {
        few = f;
        there = omega arith;
        intervals = a.limits.intervals;
        registers = a.limits.registers;
        instructions = a.limits.instructions;
        within = within_of;
        rows = rows_of m;
        classes = classes_of;
        owned = λ v h. (a.classes _ (a.intervals v h).class).inside;
        runs = runs_of g;
        points = points_of_lem;
      }

-- what rules 1 and 3 give the later ones
module _ (T : Tables) (c : Claim) (r : Ready T c) (one : Rule1 T c) where
  pub tiling_of : Tiling c.words c.count T.intervals
  tiling_of = rule1_tiling T c one

  -- no record starts past the program
  pub below_of : Below c.words c.count (T.instructions * 2)
  below_of =
      record {
        under = λ k h.
            let s = tiling_of.loose.each k h in
            omega (arith, s.ordered, s.to, r.within.under (interval_of c.words k) s.names);
        most = r.within.most;
      }

  module _ (three : Rule3 T c) where
    -- a register record's register is one of the table's
    pub registers_of : Registers c.words c.count (length T.registers)
    unfolding class_of interval_of
    registers_of =
        record {
          below = λ k h e.
              let s = tiling_of.loose.each k h in
              let u = (rule3_suits T c three k h).suits e in
              let o = r.owned (interval_of c.words k) s.names in
              omega (arith, u.to);
          ordered = λ k h. (tiling_of.loose.each k h).ordered;
        }

    pub few_registers : Registers c.words c.count 64
    few_registers =
        record { below = λ k h e. omega (arith, registers_of.below k h e, r.registers); ordered = registers_of.ordered }
