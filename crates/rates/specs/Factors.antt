-- The rule of the factor table, as a test. Assumes nothing.
use Rattle.std.specs.Prelude.{ℕ, suc, Bool, true, ◌&&◌, List, [], ◌∷◌, map, length, ℤ, ◌==◌, nat_le, unsigned_abs}
use borrow.Author.Differences.{up, down}
use Rattle.fractions.specs.Powers.{product}
use Rattle.rates.specs.Listed.{listed, largest_tie}

-- no exponent is larger than a tie may have
abbrev pub short : List ℤ → Bool
short [] = true
short (e ∷ es) = nat_le (unsigned_abs e) largest_tie && short es

-- the row has an exponent for each listed prime, and multiplies out to n over 1
abbrev pub row : ℕ → List ℤ → Bool
row n es = length es == length listed && (product listed (map up es) == n && (product listed (map down es) == 1 && short es))

-- the rows are those of n, n + 1 and so on
abbrev pub tabled : ℕ → List (List ℤ) → Bool
tabled n [] = true
tabled n (es ∷ rows) = row n es && tabled (suc n) rows
