use Rattle.std.proofs.Common.{◌≡◌, ◌≤◌, List, ℤ, ap, arith, rules}
use Rattle.steps.specs.Kind.{limit}
use Rattle.fractions.specs.Exponents.{minima, norm}
use Rattle.fractions.proofs.Norms.{norm_min}
use Rattle.rates.proofs.Worth.{rate_measure}
use Rattle.rates.proofs.rate.RateStep.measure.Goals as goal

pub invariant_of-result : goal.invariant_of-result
invariant_of-result c =
    let es : List ℤ = c.args.self.now.exponents in
    let fs : List ℤ = c.args.other.now.exponents in
    let e : norm c.minima.result ≡ norm (minima es fs) = ap norm c.minima.ensures in
    let h : norm (minima es fs) ≤ limit = norm_min limit es fs c.args.self.now.within c.args.other.now.within in
    record { within = omega arith }

pub returns : goal.returns
returns c = rate_measure c.args.self.now.exponents c.args.other.now.exponents c.minima.result (search rules) (search rules) c.minima.ensures
