-- The listed numbers are primes: one computed test. Assumes nothing.
use Rattle.rates.specs.Listed.{listed}
use Rattle.fractions.proofs.Primes.{Primes, primes_are}

pub all_prime : Primes listed
all_prime = primes_are listed tt
