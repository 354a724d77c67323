-- What each rule's test answers: whether the rule of Placement holds, exactly, of all tables and claims that have these parts, whatever the parts are that the rule does not look at.
use Rattle.std.specs.Prelude.{ℕ, List, ◌≡◌, Bool}
use Rattle.rules.specs.Tables.{Tables}
use Rattle.rules.specs.Placement.{Claim, Rule1, Rule2, Rule3, Rule4, Rule5, Rule6, Rule7}
use Rattle.checker_rules.specs.Says.{Says}

-- the claim has these records
pub record Claims (ws : List ℕ) (n : ℕ) (c : Claim) : Type 0 where
  pub words : c.words ≡ ws
  pub count : c.count ≡ n

pub record Decides1 (words : List ℕ) (count : ℕ) (intervals : List ℕ) (r : Bool) : Type 0 where
  pub says : (T : Tables) (c : Claim) → Claims words count c → T.intervals ≡ intervals → Says r (Rule1 T c)

pub record Decides2 (words : List ℕ) (count : ℕ) (intervals mentions : List ℕ) (r : Bool) : Type 0 where
  pub says : (T : Tables) (c : Claim) → Claims words count c → T.intervals ≡ intervals → T.mentions ≡ mentions → Says r (Rule2 T c)

pub record Decides3 (words : List ℕ) (count : ℕ) (intervals classes : List ℕ) (r : Bool) : Type 0 where
  pub says : (T : Tables) (c : Claim) → Claims words count c → T.intervals ≡ intervals → T.classes ≡ classes → Says r (Rule3 T c)

pub record Decides4 (words : List ℕ) (count : ℕ) (r : Bool) : Type 0 where
  pub says : (T : Tables) (c : Claim) → Claims words count c → Says r (Rule4 T c)

pub record Decides5 (words : List ℕ) (count : ℕ) (registers fragments : List ℕ) (r : Bool) : Type 0 where
  pub says : (T : Tables) (c : Claim) → Claims words count c → T.registers ≡ registers → T.fragments ≡ fragments → Says r (Rule5 T c)

pub record Decides6 (words : List ℕ) (count : ℕ) (intervals : List ℕ) (total : ℕ) (r : Bool) : Type 0 where
  pub says : (T : Tables) (c : Claim) → Claims words count c → c.total ≡ total → T.intervals ≡ intervals → Says r (Rule6 T c)

pub record Decides7 (words : List ℕ) (count : ℕ) (intervals mentions safepoints : List ℕ) (r : Bool) : Type 0 where
  pub says : (T : Tables) (c : Claim) → Claims words count c → T.intervals ≡ intervals → T.mentions ≡ mentions → T.safepoints ≡ safepoints → Says r (Rule7 T c)
