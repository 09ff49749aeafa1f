use Rattle.fractions.proofs.Naturals.{measure_least}
use Rattle.rates.specs.Rates.{worth}
use Rattle.rates.proofs.rate.RateStep.least_factor.Goals as goal

pub returns : goal.returns
returns c = rw c.in_ok-first.ensures.cases.0 (measure_least _ (worth c.measure_of.result) (worth c.inverse.result) c.inverse.ensures c.measure_of.ensures)
