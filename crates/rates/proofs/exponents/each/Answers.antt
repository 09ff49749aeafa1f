use Rattle.std.proofs.Common.{get_or, pos, rules, arith}
use Rattle.rates.proofs.Arrays.{at_indices}
use Rattle.rates.proofs.exponents.each.Given as given
use Rattle.rates.proofs.exponents.each.Goals as goal

pub returns : goal.returns
returns g c i h = at_indices _ (λ k r. given.F-post g c.args.turn (get_or c.args.exponents.now k (pos 0)) r) _ (pos 0) _ (λ k r q e. search rules) _ c.from_fn.ensures.items i (omega arith)
