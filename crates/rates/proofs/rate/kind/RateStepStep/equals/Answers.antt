use Rattle.std.proofs.Common.{List, ℤ, rules}
use Rattle.std.proofs.lemmas.Bool.{cases_from_iff}
use Rattle.std.proofs.lemmas.Bool.Decides.{Decides-int_eq}
use Rattle.std.proofs.lemmas.Slice.Eq.{slice_eq-Decides}
use Rattle.rates.proofs.Worth.{rate_inj, rate_same}
use Rattle.rates.proofs.rate.kind.RateStepStep.equals.Goals as goal

pub returns : goal.returns
returns c =
    let es : List ℤ = c.args.self.now.exponents in
    let fs : List ℤ = c.args.other.now.exponents in
    let d = slice_eq-Decides Decides-int_eq es fs c.eq.result c.eq.ensures in
    cases_from_iff (λ t. rate_same es fs (d.0 t), λ s. d.1 (rate_inj es fs (search rules) (search rules) s))
