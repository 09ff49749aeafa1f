use Rattle.std.proofs.Common.{pos, arith}
use Rattle.std.specs.Int.{int_min}
use Rattle.rates.proofs.Arrays.{zip_with_is}
use Rattle.rates.proofs.exponents.minima.Goals as goal

pub returns : goal.returns
returns c = zip_with_is int_min (pos 0) (pos 0) (pos 0) _ _ _ (omega arith) (omega arith) c.joined.ensures
