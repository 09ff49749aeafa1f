-- The primes that rate steps are made of, and the limits on factors, ties and printed numbers. Assumes nothing.
use Rattle.std.specs.Prelude.{ℕ, List, [], ◌∷◌}

abbrev pub listed : List ℕ
listed = 2 ∷ 3 ∷ 5 ∷ 7 ∷ 11 ∷ 13 ∷ 17 ∷ 19 ∷ 23 ∷ 29 ∷ 31 ∷ 37 ∷ 41 ∷ 43 ∷ 47 ∷ 53 ∷ 59 ∷ 61 ∷ []

-- the largest factor
abbrev pub largest_factor : ℕ
largest_factor = 64

-- the largest size of a tie
abbrev pub largest_tie : ℕ
largest_tie = 6

-- the largest numerator or denominator
abbrev pub largest_number : ℕ
largest_number = 4294967295
