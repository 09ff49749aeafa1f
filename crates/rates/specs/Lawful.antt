-- Rates show the laws of a kind. Assumes nothing.
use Rattle.std.proofs.Common.{lit≤}
use Rattle.steps.specs.Kind.{Lawful}
use Rattle.fractions.proofs.Laws.{same_refl, same_sym, same_trans, mul_same, inv_same, assoc, unit_left, inverse}
use Rattle.fractions.proofs.Sizes.{size_same, size_one, size_inv, size_mul}
use Rattle.rates.specs.Listed.{listed}
use Rattle.rates.specs.Rates.{rates}
use Rattle.rates.specs.Primal.{all_prime}

pub rate_laws : Lawful rates
rate_laws =
    record {
      rfl = same_refl;
      swap = same_sym;
      join = same_trans;
      mul_same = mul_same;
      inv_same = inv_same;
      assoc = assoc;
      left = unit_left;
      inverse = inverse;
      size_same = size_same listed all_prime;
      size_one = size_one listed;
      size_inv = size_inv listed;
      size_mul = size_mul listed all_prime;
      small = lit≤ tt;
    }
