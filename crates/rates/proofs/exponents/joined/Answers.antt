use Rattle.std.proofs.Common.{get_or, pos, rules, arith}
use Rattle.rates.proofs.Arrays.{at_indices}
use Rattle.rates.proofs.exponents.joined.Given as given
use Rattle.rates.proofs.exponents.joined.Goals as goal

pub returns : goal.returns
returns g c i h = at_indices _ (λ k r. given.F-post g c.args.join (get_or c.args.left.now k (pos 0)) (get_or c.args.right.now k (pos 0)) r) _ (pos 0) _ (λ k r q e. search rules) _ c.from_fn.ensures.items i (omega arith)
