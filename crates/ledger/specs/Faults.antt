-- What each fault says. Assumes nothing.
use Rattle.std.specs.Prelude.{ℕ, List, ◌++◌, codes, decimal, Ok, Err, Result}
use Rattle.ledger.specs.declared.faults.Fault.{Fault}
use Rattle.ledger.specs.declared.faults.Fault.TheVariants.{Full, NoPoint, TooLarge, Contradiction}

-- a number, and two points
pub record Refusal : Type 0 where
  pub number : ℕ
  pub first : ℕ
  pub second : ℕ

abbrev pub refusal : Fault → Refusal
refusal Full = record { number = 4; first = 0; second = 0 }
refusal (NoPoint a b) = record { number = 5; first = a; second = b }
refusal (TooLarge a b) = record { number = 7; first = a; second = b }
refusal (Contradiction a b) = record { number = 11; first = a; second = b }

-- a fault as it is printed
abbrev pub refusal_text : Fault → List ℕ
refusal_text e = codes "refused " ++ decimal (refusal e).number ++ codes " at " ++ decimal (refusal e).first ++ codes " and " ++ decimal (refusal e).second

-- the number of a refusal, 0 where the call is accepted
abbrev pub code : {A : Type 0} → Result A Fault → ℕ
code (Ok x) = 0
code (Err e) = (refusal e).number

-- the points that a refusal names, zeros where the call is accepted
abbrev pub named : {A : Type 0} → Result A Fault → ℕ × ℕ
named (Ok x) = (0, 0)
named (Err e) = ((refusal e).first, (refusal e).second)
