-- More small runs, beside document 01's: what M1 to M13 leave open and a wrong reader would get wrong. One table, proved by computing.
-- Assumes nothing.
use Prim.Native.Nat.{ℕ, ◌+◌, ◌-◌, ◌*◌}
use mathlib.Core.Path.{◌≡◌, refl}
use mathlib.Core.Bool.{true, false}
use mathlib.Core.List.{List, [], ◌∷◌, ◌++◌, map}
use lib.ListN.{replicate}
use Rattle.rules.specs.declared.Refusal.{Refusal}
use Rattle.rules.specs.declared.Refusal.TheVariants.{BadStrategy, OverLimit, BadClass, BadInterval, BadMention, BadFixed, NoRoom, OutOfRegisters}
use Rattle.rules.specs.declared.Options.{Options}
use Rattle.rules.specs.Tables.{Tables}
use Rattle.rules.proofs.Cases.{Case, gives, wanted, plain, partial_on, one, alone, three, sevens, done, refuses}

-- another strategy, by its number
abbrev asks : ℕ → Options
asks n = record { strategy = n; partial_split = false; partial_split_near_end = false }

-- One again, with another number of instructions, or with fragments
abbrev one_of : ℕ → List ℕ → List ℕ → Tables
one_of n intervals mentions =
    record { instructions = n; classes = 0x00028080 ∷ []; registers = 0 ∷ 0 ∷ []; fragments = []; intervals = intervals; mentions = mentions; safepoints = [] }

abbrev one_with : List ℕ → List ℕ → List ℕ → List ℕ → Tables
one_with registers fragments intervals mentions =
    record { instructions = 5; classes = 0x00028080 ∷ []; registers = registers; fragments = fragments; intervals = intervals; mentions = mentions; safepoints = [] }

-- Strategy n picks p in 2..11: One, [1,19] def 0 use 9, from which [11,12] def 5 steals
abbrev picks : ℕ → ℕ → Case
picks n p =
    record {
      options = asks n;
      tables =
          one_of 10
          (0x00000000 ∷ 0x00010013 ∷ 0x00000002 ∷ 0x00000000 ∷ 0x00000000 ∷ 0x000b000c ∷ 0x00020001 ∷ 0x00000000 ∷ [])
          (0x00000001 ∷ 0x00120004 ∷ 0x000a0001 ∷ []);
      area = sevens 9;
      work = 288;
      wants = done 4 1 (0x40000000 ∷ (0x00010000 + (p - 1)) ∷ 0x40040000 ∷ 0x000b000c ∷ 0x80000000 ∷ (p * 65536 + 17) ∷ 0x40000000 ∷ 0x00120013 ∷ 7 ∷ []);
    }

-- A refusal at entry, of one or two intervals' room: the area is as it was
abbrev refusal : Options → Tables → ℕ → Refusal → Case
refusal o T work a = record { options = o; tables = T; area = sevens 5; work = work; wants = refuses a (sevens 5) }

-- M2's tables, which are sound
abbrev sound : Tables
sound = one (0x00000000 ∷ 0x00010001 ∷ 0x00000001 ∷ 0x00000000 ∷ []) (0x00000001 ∷ []) []

abbrev cases : List Case
cases =
    -- registers 0 and 1 are both free for ever: the lowest wins a tie
    record {
      options = plain;
      tables = three (0x00000000 ∷ 0x00000001 ∷ 0x00000001 ∷ 0x00000000 ∷ []) (0x00000004 ∷ []);
      area = sevens 3;
      work = 264;
      wants = done 1 0 (0x40000000 ∷ 0x00000001 ∷ 7 ∷ []);
    }
    -- "never" is above every point, also above 65,535, at which this interval ends
    ∷ record {
      options = plain;
      tables = one_of 32768 (0x00000000 ∷ 0xffffffff ∷ 0x00000000 ∷ 0x00000000 ∷ []) [];
      area = sevens 3;
      work = 264;
      wants = done 1 0 (0x40000000 ∷ 0xffffffff ∷ 7 ∷ []);
    }
    -- a mention at the point of a split goes to the child: [8,9] of interval 0 needs a register at 8, and so does interval 1
    ∷ record {
      options = plain;
      tables =
          one
          (0x00000000 ∷ 0x00010009 ∷ 0x00000002 ∷ 0x00000000 ∷ 0x00000000 ∷ 0x00030009 ∷ 0x00020003 ∷ 0x00000000 ∷ [])
          (0x00000001 ∷ 0x00080004 ∷ 0x00020001 ∷ 0x00060004 ∷ 0x00080004 ∷ [])
          [];
      area = sevens 9;
      work = 288;
      wants = refuses (OutOfRegisters 3) (replicate 8 0 ++ sevens 1);
    }
    -- a slot is rounded up to a multiple of its size: sizes 1 then 2 give slots 0 and 2, total 4
    ∷ record {
      options = plain;
      tables = alone (0x00000000 ∷ 0x00000007 ∷ 0x00000000 ∷ 0x00000000 ∷ 0x04000000 ∷ 0x00000007 ∷ 0x00000000 ∷ 0x00000000 ∷ []) [];
      area = sevens 5;
      work = 272;
      wants = done 2 4 (0x80000000 ∷ 0x00000007 ∷ 0x80040002 ∷ 0x00000007 ∷ 7 ∷ []);
    }
    -- 1 From, 2 To, 3 NextFrom, 4 NextNextFrom, 5 Mid, 6 PrevTo, 7 PrevPrevTo
    ∷ picks 1 2
    ∷ picks 2 11
    ∷ picks 3 3
    ∷ picks 4 4
    ∷ picks 5 6
    ∷ picks 6 10
    ∷ picks 7 9
    -- a partial split near the last use, at 2, then at 4, and no more: 6 is not below 6
    ∷ record {
      options = partial_on false;
      tables = one_with (0x00000001 ∷ 0x00010000 ∷ []) (0x00060007 ∷ []) (0x00000000 ∷ 0x00000009 ∷ 0x00000001 ∷ 0x00000000 ∷ []) (0x00000004 ∷ []);
      area = sevens 7;
      work = 280;
      wants = done 3 1 (0x40000000 ∷ 0x00000001 ∷ 0x40000000 ∷ 0x00020003 ∷ 0x80000000 ∷ 0x00040009 ∷ 7 ∷ []);
    }
    -- a partial split near the end, at 4, and no more: 4 is not above 4
    ∷ record {
      options = partial_on true;
      tables = one_with (0x00000001 ∷ 0x00010000 ∷ []) (0x00060007 ∷ []) (0x00000000 ∷ 0x00000009 ∷ 0x00000001 ∷ 0x00000000 ∷ []) (0x00000004 ∷ []);
      area = sevens 7;
      work = 280;
      wants = done 2 1 (0x40000000 ∷ 0x00000003 ∷ 0x80000000 ∷ 0x00040009 ∷ 7 ∷ 7 ∷ 7 ∷ []);
    }
    -- a piece that ends at S is still active: [4,5] takes its register from [0,4]
    ∷ record {
      options = plain;
      tables = one (0x00000000 ∷ 0x00000004 ∷ 0x00000001 ∷ 0x00000000 ∷ 0x00000000 ∷ 0x00040005 ∷ 0x00010001 ∷ 0x00000000 ∷ []) (0x00000004 ∷ 0x00040001 ∷ []) [];
      area = sevens 7;
      work = 280;
      wants = done 3 1 (0x40000000 ∷ 0x00000000 ∷ 0x40040000 ∷ 0x00040005 ∷ 0x80000000 ∷ 0x00010004 ∷ 7 ∷ []);
    }
    -- a virtual register that is spilled twice has one slot
    ∷ record {
      options = plain;
      tables =
          one_of 10
          (0x00000000 ∷ 0x00010013 ∷ 0x00000003 ∷ 0x00000000
          ∷ 0x00000000 ∷ 0x00030006 ∷ 0x00030002 ∷ 0x00000000
          ∷ 0x00000000 ∷ 0x000b000e ∷ 0x00050002 ∷ 0x00000000 ∷ [])
          (0x00000001 ∷ 0x00080004 ∷ 0x00120004 ∷ 0x00020001 ∷ 0x00060004 ∷ 0x000a0001 ∷ 0x000e0004 ∷ []);
      area = sevens 15;
      work = 312;
      wants =
          done 7 1
          (0x40000000 ∷ 0x00010001 ∷ 0x40040000 ∷ 0x00030006 ∷ 0x40080000 ∷ 0x000b000e ∷ 0x80000000 ∷ 0x00020007
          ∷ 0x40000000 ∷ 0x00080008 ∷ 0x80000000 ∷ 0x00090011 ∷ 0x40000000 ∷ 0x00120013 ∷ 7 ∷ []);
    }
    -- 2: strategies 0 and 8
    ∷ refusal (asks 0) sound 272 BadStrategy
    ∷ refusal (asks 8) sound 272 BadStrategy
    -- 3: no class
    ∷ refusal plain (record { instructions = 5; classes = []; registers = []; fragments = []; intervals = []; mentions = []; safepoints = [] }) 272 OverLimit
    -- 4: a spare bit of class 0
    ∷ refusal plain (record { instructions = 5; classes = 0x00028081 ∷ []; registers = 0 ∷ 0 ∷ []; fragments = []; intervals = []; mentions = []; safepoints = [] }) 272 (BadClass 0)
    -- 5: interval 1 ends past the last point; and a mention is left over where there is no interval
    ∷ refusal plain (one (0x00000000 ∷ 0x00010001 ∷ 0x00000001 ∷ 0x00000000 ∷ 0x00000000 ∷ 0x0001000a ∷ 0x00010000 ∷ 0x00000000 ∷ []) (0x00000001 ∷ []) []) 272 (BadInterval 1)
    ∷ refusal plain (one [] (0x00000001 ∷ []) []) 272 (BadInterval 65535)
    -- 6: mention 1 is not after mention 0
    ∷ refusal plain (one (0x00000000 ∷ 0x00000009 ∷ 0x00000002 ∷ 0x00000000 ∷ []) (0x00020001 ∷ 0x00020004 ∷ []) []) 272 (BadMention 1)
    -- 8: register 0's second fragment starts where its first ends
    ∷ refusal plain (one_with (0x00000002 ∷ 0x00020000 ∷ []) (0x00020003 ∷ 0x00030004 ∷ []) [] []) 272 (BadFixed 0)
    -- 9: the work area is one word short
    ∷ refusal plain sound 271 NoRoom
    ∷ []

pub more : map gives cases ≡ map wanted cases
unfolding gives
more = refl
