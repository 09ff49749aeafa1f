-- What the calls of rate steps answer. Assumes nothing.
use Rattle.std.specs.Prelude.{◌≡◌, ℕ, ◌<◌, ◌≤◌, List, [], Option, Result, MatchOption, MatchResult}
use Rattle.fractions.specs.Fractions.{Fraction, same, whole}
use Rattle.fractions.specs.Powers.{size}
use Rattle.fractions.specs.Reduced.{Reduced}
use Rattle.fractions.specs.Least.{Least}
use Rattle.rates.specs.Listed.{listed, largest_factor, largest_tie, largest_number}
use Rattle.rates.specs.Rates.{worth}
use Rattle.rates.specs.declared.rate.RateStep.{RateStep}
use Rattle.rates.specs.declared.rate.calls.NotAFactor.{NotAFactor}
use Rattle.rates.specs.declared.rate.calls.Overflow.{Overflow}

-- n is a factor
abbrev pub IsFactor : ℕ → Type 0
IsFactor n = (0 < n) × (n ≤ largest_factor)

-- the step of the factor n means n over 1, and is no larger than a tie may be
pub record Factor (n : ℕ) (s : RateStep) : Type 0 where
  pub is : IsFactor n
  pub means : same (worth s) (whole n is.0)
  pub ties : size listed (worth s) ≤ largest_tie

-- refused exactly when n is no factor, with n in the error
abbrev pub FromFactor : ℕ → Result RateStep NotAFactor → Type 0
FromFactor n r = MatchResult r (Factor n) (λ e. (IsFactor n → ⊥) × (e.0 ≡ n))

-- n itself, or nothing where it is too large
abbrev pub Bounded : ℕ → Option ℕ → Type 0
Bounded n r = MatchOption r (largest_number < n) (λ m. (m ≤ largest_number) × (m ≡ n))

-- x is n over d, without common factor, and neither is too large
pub record Fitting (x : Fraction) (n d : ℕ) : Type 0 where
  pub reduced : Reduced x n d
  pub top : n ≤ largest_number
  pub bottom : d ≤ largest_number

-- however x is written, one of its numbers is too large
abbrev pub Exceeding : Fraction → Type 0
Exceeding x = (y : Fraction) → same y x → y.num ≤ largest_number → y.den ≤ largest_number → ⊥

-- refused exactly where a number is too large
abbrev pub Ratio : Fraction → Result (ℕ × ℕ) Overflow → Type 0
Ratio x r = MatchResult r (λ q. Fitting x q.0 q.1) (λ e. Exceeding x)

-- nothing exactly where there are no rates, and else the least factor that makes them natural
abbrev pub LeastFactor : List Fraction → Option RateStep → Type 0
LeastFactor xs r = MatchOption r (xs ≡ []) (λ s. Least xs (worth s))
