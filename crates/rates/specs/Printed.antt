-- How a rate is printed. Assumes nothing.
use Rattle.std.specs.Prelude.{ℕ, ◌&&◌, nat_le, List, ◌++◌, if◌then◌else◌, codes, decimal}
use Rattle.fractions.specs.Fractions.{Fraction}
use Rattle.rates.specs.Listed.{largest_number}

-- the numbers of x, or that one of them is too large; what a step means has numbers without common factor
abbrev pub words : Fraction → List ℕ
words x = if nat_le x.num largest_number && nat_le x.den largest_number then decimal x.num ++ (codes "/" ++ decimal x.den) else codes "too large"
