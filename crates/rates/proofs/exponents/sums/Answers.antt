use Rattle.std.proofs.Common.{◌+ℤ◌, pos, arith}
use Rattle.fractions.proofs.Norms.{norm_at}
use Rattle.rates.proofs.Arrays.{zip_with_is}
use Rattle.rates.proofs.exponents.sums.Goals as goal

pub joined-requires : goal.joined-requires
joined-requires c i h =
    let x = norm_at c.args.left.now i (omega arith) in
    let y = norm_at c.args.right.now i (omega arith) in
    omega arith

pub returns : goal.returns
returns c = zip_with_is ◌+ℤ◌ (pos 0) (pos 0) (pos 0) _ _ _ (omega arith) (omega arith) c.joined.ensures
