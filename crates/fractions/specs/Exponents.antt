-- Lists of exponents: sums, opposites and the lesser place by place, and the largest. Assumes nothing.
use Rattle.std.specs.Prelude.{ℕ, max, List, [], ◌∷◌, map, ℤ, ◌+ℤ◌, neg_ℤ, unsigned_abs}
use Rattle.std.specs.Int.{int_min}

-- place by place, to the end of the shorter
abbrev pub zip_with : {A B C : Type 0} → (A → B → C) → List A → List B → List C
zip_with f [] ys = []
zip_with f (x ∷ xs) [] = []
zip_with f (x ∷ xs) (y ∷ ys) = f x y ∷ zip_with f xs ys

abbrev pub added : List ℤ → List ℤ → List ℤ
added = zip_with ◌+ℤ◌

abbrev pub negated : List ℤ → List ℤ
negated = map neg_ℤ

abbrev pub minima : List ℤ → List ℤ → List ℤ
minima = zip_with int_min

-- the largest, without its sign
unfoldable pub norm : List ℤ → ℕ
norm [] = 0
norm (e ∷ es) = max (unsigned_abs e) (norm es)
