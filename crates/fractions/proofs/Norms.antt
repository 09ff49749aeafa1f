-- The norm of a list of exponents: its largest, without its sign. Assumes nothing.
use Rattle.std.proofs.Common.{◌≡◌, ℕ, zero, suc, ◌+◌, ◌<◌, ◌≤◌, max, List, [], ◌∷◌, length, get_or, map, ℤ, pos, ◌+ℤ◌, neg_ℤ, nat_abs, refl, ap₂, arith}
use borrow.Author.Differences.{ints}
use Rattle.std.specs.Int.{int_min}
use Rattle.std.specs.List.{fold, reduce}
use Rattle.std.specs.Option.{unwrap_or}
use Rattle.std.proofs.lemmas.Int.{clamps}
use Rattle.fractions.specs.Exponents.{added, negated, minima, norm}

fold_max : (a : ℕ) (xs : List ℤ) → fold max a (map nat_abs xs) ≡ max a (norm xs)
unfolding norm
fold_max a [] = omega arith
fold_max a (x ∷ xs) = let r = fold_max (max a (nat_abs x)) xs in omega arith

-- the largest of the numbers without their signs, or 0 where there are none
pub norm_max : (xs : List ℤ) → unwrap_or (reduce max (map nat_abs xs)) 0 ≡ norm xs
unfolding norm
norm_max [] = refl
norm_max (x ∷ xs) = fold_max (nat_abs x) xs

pub norm_at : (xs : List ℤ) (i : ℕ) → i < length xs → nat_abs (get_or xs i (pos 0)) ≤ norm xs
unfolding norm
norm_at [] i h = absurd (omega arith)
norm_at (x ∷ xs) zero h = omega arith
norm_at (x ∷ xs) (suc i) h = let r = norm_at xs i (omega arith) in omega arith

max_le : (a b c d e f : ℕ) → a ≤ c + e → b ≤ d + f → max a b ≤ max c d + max e f
max_le a b c d e f h k = omega arith

-- the norm of a sum is at most the sum of the norms
pub norm_add : (xs ys : List ℤ) → norm (added xs ys) ≤ norm xs + norm ys
unfolding norm
norm_add [] ys = omega arith
norm_add (x ∷ xs) [] = omega arith
norm_add (x ∷ xs) (y ∷ ys) =
    let a : nat_abs (x +ℤ y) ≤ nat_abs x + nat_abs y = omega (arith, ints) in
    max_le (nat_abs (x +ℤ y)) (norm (added xs ys)) (nat_abs x) (norm xs) (nat_abs y) (norm ys) a (norm_add xs ys)

abs_neg : (x : ℤ) → nat_abs (neg_ℤ x) ≡ nat_abs x
abs_neg x = omega (arith, ints)

pub norm_neg : (xs : List ℤ) → norm (negated xs) ≡ norm xs
unfolding norm
norm_neg [] = refl
norm_neg (x ∷ xs) = ap₂ max (abs_neg x) (norm_neg xs)

-- no lesser exponent is larger than both
pub norm_min : (k : ℕ) (xs ys : List ℤ) → norm xs ≤ k → norm ys ≤ k → norm (minima xs ys) ≤ k
unfolding norm
norm_min k [] ys h l = omega arith
norm_min k (x ∷ xs) [] h l = omega arith
norm_min k (x ∷ xs) (y ∷ ys) h l =
    let a : nat_abs (int_min x y) ≤ k = omega (arith, ints, clamps) in
    let r : norm (minima xs ys) ≤ k = norm_min k xs ys (omega arith) (omega arith) in
    omega arith
