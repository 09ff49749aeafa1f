use Rattle.std.proofs.Common.{neg_ℤ, pos, arith}
use Rattle.fractions.proofs.Norms.{norm_at}
use Rattle.rates.proofs.Arrays.{map_is}
use Rattle.rates.proofs.exponents.opposites.Goals as goal

pub each-requires : goal.each-requires
each-requires c i h = let k = norm_at c.args.exponents.now i (omega arith) in omega arith

pub returns : goal.returns
returns c = map_is neg_ℤ (pos 0) (pos 0) _ _ (omega arith) c.each.ensures
