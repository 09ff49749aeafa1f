-- What rate steps mean, and their kind. Assumes nothing.
use Rattle.std.specs.Prelude.{List, ℤ}
use Rattle.steps.specs.Kind.{Kind}
use Rattle.fractions.specs.Fractions.{Fraction, same, one, mul, inv}
use Rattle.fractions.specs.Powers.{fraction, size}
use Rattle.rates.specs.Listed.{listed, largest_tie}
use Rattle.rates.specs.declared.rate.RateStep.{RateStep}

-- the fraction that exponents of the listed primes stand for
abbrev pub rate : List ℤ → Fraction
rate es = fraction listed tt es

-- the fraction that a step means
abbrev pub worth : RateStep → Fraction
worth s = rate s.exponents

-- all positive fractions, also those with other primes; the size is the largest exponent of a listed prime, without its sign
abbrev pub rates : Kind
rates = record { Element = Fraction; same = same; one = one; mul = mul; inv = inv; size = size listed; most = largest_tie }
