-- The tables and the claim of a call as they are lent: those of the code hold slices, those of the rules their words.
use Rattle.rules.specs.Tables.{Tables}
use Rattle.rules.specs.Placement.{Claim}
use Rattle.rules.specs.declared.Tables as lent
use Rattle.rules.specs.declared.Claim as claimed

abbrev pub tables_of : lent.Tables → Tables
tables_of t =
    record {
      instructions = t.instructions;
      classes = t.classes.now;
      registers = t.registers.now;
      fragments = t.fragments.now;
      intervals = t.intervals.now;
      mentions = t.mentions.now;
      safepoints = t.safepoints.now;
    }

abbrev pub claim_of : claimed.Claim → Claim
claim_of c = record { words = c.words.now; count = c.count; total = c.total }
