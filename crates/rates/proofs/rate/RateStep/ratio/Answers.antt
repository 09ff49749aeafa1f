use Rattle.std.proofs.Common.{◌<◌, List, map, ℤ, rules}
use borrow.Author.Differences.{up}
use Rattle.fractions.specs.Powers.{product}
use Rattle.rates.specs.Listed.{listed, largest_number}
use Rattle.rates.specs.Rates.{rate}
use Rattle.rates.specs.Calls.{Exceeding}
use Rattle.rates.proofs.Fits.{large_above, large_below, fitting}
use Rattle.rates.proofs.rate.RateStep.ratio.Goals as goal

pub returns-in_err-numerator : goal.returns-in_err-numerator
returns-in_err-numerator c =
    let es : List ℤ = c.args.self.now.exponents in
    let n : largest_number < product listed (map up es) = search rules in
    let u : Exceeding (rate es) = large_above es n in
    search rules

pub returns-in_err-denominator : goal.returns-in_err-denominator
returns-in_err-denominator c =
    let es : List ℤ = c.args.self.now.exponents in
    let n : largest_number < product listed (map up c.opposites-opposites.result) = search rules in
    let u : Exceeding (rate es) = large_below es c.opposites-opposites.result c.opposites-opposites.ensures n in
    search rules

pub returns : goal.returns
returns c =
    fitting c.args.self.now.exponents c.opposites-opposites.result c.in_ok-numerator.numerator c.in_ok-denominator.denominator c.opposites-opposites.ensures
    (search rules) (search rules)
