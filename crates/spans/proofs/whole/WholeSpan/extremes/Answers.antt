use Rattle.std.proofs.Common.{◌^◌, ℤ, ◌*ℤ◌, FitsSigned, w32, w64, rules, arith}
use Rattle.std.proofs.lemmas.Int.{fits_signed_mul, ints, to_z-of_z}
use Rattle.spans.proofs.whole.WholeSpan.extremes.Goals as goal

-- the product of 32-bit numbers is one of 64 bits
product_fits : (x y : ℤ) → FitsSigned w32 x → FitsSigned w32 y → FitsSigned w64 (x *ℤ y)
product_fits x y f g = fits_signed_mul w64 x y (2 ^ 31) (2 ^ 31) (search (arith, ints)) (search (arith, ints)) (search rules)

pub returns : goal.returns
returns c = grind (arith, to_z-of_z, product_fits)
