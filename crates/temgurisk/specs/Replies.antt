-- Document 01, "Answers by number": the four words that a caller in C gets, by the definitions of `rules`.
use Rattle.rules.specs.Answers.{Answer, number, place, count, total}
use Rattle.std.specs.Prelude.{ℕ, ◌≡◌, List}
use Rattle.rules.specs.declared.Options.{Options}
use Rattle.rules.specs.Tables.{Tables}
use Rattle.rules.specs.Placement.{Claim}
use Rattle.rules.specs.Call.{Assigned}
use Rattle.rules.specs.Checker.{Checks}
use Rattle.temgurisk.specs.declared.Reply.{Reply}

-- "a refusal's count and total are 0"
abbrev pub refused : ℕ → ℕ → Reply
refused n p = record { number = n; place = p; count = 0; total = 0 }

-- number, place, count and total of an answer
abbrev pub reply_of : Answer → Reply
reply_of a = record { number = number a; place = place a; count = count a; total = total a }

-- the words of an answer that the rules give to a call, and both areas hold what the rules say
pub record Replied (o : Options) (T : Tables) (out out' work work' : List ℕ) (r : Reply) : Type 0 where
  pub answer : Answer
  pub assigned : Assigned o T out out' work work' answer
  pub says : r ≡ reply_of answer

-- the words of an answer that the checker must give
pub record Reviewed (T : Tables) (c : Claim) (r : Reply) : Type 0 where
  pub answer : Answer
  pub checks : Checks T c answer
  pub says : r ≡ reply_of answer
