-- The least factor that makes fractions natural, and their greatest common measure. Assumes nothing.
use Rattle.std.specs.Prelude.{List, All}
use Rattle.fractions.specs.Fractions.{Fraction, AtLeast, mul, inv, Natural}

-- t times each of the fractions is natural
abbrev pub MakesNatural : Fraction → List Fraction → Type 0
MakesNatural t xs = All (λ x. Natural (mul t x)) xs

-- f makes them natural, and so does no lesser factor
pub record Least (xs : List Fraction) (f : Fraction) : Type 0 where
  pub makes : MakesNatural f xs
  pub least : (t : Fraction) → MakesNatural t xs → AtLeast t f

-- x is a natural multiple of m
abbrev pub Measures : Fraction → Fraction → Type 0
Measures m x = Natural (mul (inv m) x)

-- m measures each of them, and whatever measures each of them measures m
pub record Measure (xs : List Fraction) (m : Fraction) : Type 0 where
  pub common : All (Measures m) xs
  pub greatest : (k : Fraction) → All (Measures k) xs → Measures k m
