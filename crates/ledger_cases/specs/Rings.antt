-- When a ring of conversions closes. Assumes nothing.
use Rattle.std.specs.Prelude.{◌≡◌, ℕ, ◌<◌, ◌≤◌, Ok, Err, Result}
use Rattle.ledger.specs.declared.faults.Fault.{Fault}
use Rattle.ledger.specs.declared.faults.Fault.TheVariants.{NoPoint, TooLarge, Contradiction}
use Rattle.ledger.specs.Calls.{Exactly}
use Rattle.fractions.specs.Fractions.{Fraction, same, mul}
use Rattle.rates.specs.Rates.{rates}

-- a step of x may tie two points
abbrev pub Small : Fraction → Type 0
Small x = rates.size x ≤ rates.most

-- the last conversion, h, is accepted exactly when it is g times f, and else refused as a contradiction
pub record Closes (f g h : Fraction) (r : Result (Unit {0}) Fault) : Type 0 where
  pub accepted : Exactly (r ≡ Ok tt) (same h (mul g f))
  pub refused : Exactly (r ≡ Err (Contradiction 2 0)) (same h (mul g f) → ⊥)

-- what is answered to the last of three conversions, in so many cells
pub record LastOfThree (cells : ℕ) (f g h : Fraction) (r : Result (Unit {0}) Fault) : Type 0 where
  pub short : cells < 3 → r ≡ Err (NoPoint 2 0)
  pub large : 3 ≤ cells → (Small h → ⊥) → r ≡ Err (TooLarge 2 0)
  -- a conversion that was refused as too large leaves no ring to close
  pub unclosed : 3 ≤ cells → Small h → (Small f → Small g → ⊥) → r ≡ Ok tt
  pub ring : 3 ≤ cells → Small f → Small g → Small h → Closes f g h r
