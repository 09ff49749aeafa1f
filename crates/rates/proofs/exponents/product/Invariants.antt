use Rattle.std.proofs.Common.{◌≡◌, ◌*◌, map}
use borrow.Author.Differences.{up}
use Rattle.fractions.specs.Powers.{product}
use Rattle.rates.specs.Listed.{listed}
use Rattle.rates.proofs.Ratios.{left}
use Rattle.rates.proofs.exponents.product.Given as goal

-- the product so far, times that of what is left, is the whole
abbrev pub invariant-loop-prime : goal.invariant-loop-prime
invariant-loop-prime l = l.product * left l.prime-iterator ≡ product listed (map up l.exponents)
