-- What a conversion means, and what comes of entering it. Assumes nothing.
use Rattle.std.specs.Prelude.{◌≡◌, Result, MatchResult}
use Rattle.fractions.specs.Fractions.{Fraction, same}
use Rattle.rates.specs.Rates.{rates, worth}
use Rattle.rates.specs.Calls.{IsFactor}
use Rattle.rates.specs.declared.rate.RateStep.{RateStep}
use Rattle.rates.specs.declared.rate.calls.NotAFactor.{NotAFactor}
use Rattle.ledger.specs.Ties.{tied}
use Rattle.ledger.specs.Tells.{Contents}
use Rattle.ledger.specs.declared.faults.Fault.{Fault}
use Rattle.entries.specs.declared.statements.Entry.{Entry}
use Rattle.entries.specs.Outcomes.{Entered}
use Rattle.rate_rings.specs.declared.Conversion.{Conversion}

-- both numbers of the conversion are factors, and x is up over down
pub record Means (c : Conversion) (x : Fraction) : Type 0 where
  pub up_is : IsFactor c.up
  pub down_is : IsFactor c.down
  pub means : same x (record { num = c.up; den = c.down; num_pos = up_is.0; den_pos = down_is.0 })

abbrev pub NoFactors : Conversion → Type 0
NoFactors c = IsFactor c.up → IsFactor c.down → ⊥

-- the step of a conversion
abbrev pub Converted : Conversion → Result RateStep NotAFactor → Type 0
Converted c r = MatchResult r (λ s. Means c (worth s)) (λ e. NoFactors c)

-- it is entered as the tie of its signals by up over down
pub record Stated (s : Contents RateStep) (c : Conversion) (o : Result Entry Fault) (s' : Contents RateStep) : Type 0 where
  pub by : Fraction
  pub means : Means c by
  pub entered : Entered rates worth s (tied rates c.signal c.of by) o s'

abbrev pub Entering : Contents RateStep → Conversion → Result (Result Entry Fault) NotAFactor → Contents RateStep → Type 0
Entering s c r s' = MatchResult r (λ o. Stated s c o s') (λ e. NoFactors c × (s' ≡ s))
