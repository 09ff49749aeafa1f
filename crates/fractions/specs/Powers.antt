-- Products of powers of listed primes, as fractions, and the sizes of fractions over such a list. Assumes nothing.
use Rattle.std.specs.Prelude.{ℕ, zero, suc, ◌+◌, ◌-◌, ◌*◌, ◌/◌, ◌%◌, ◌^◌, ◌<◌, max, Bool, true, false, cond, ◌&&◌, T, List, [], ◌∷◌, map, ℤ, ◌==◌, nat_lt}
use Rattle.std.proofs.Common.{mul-pos, ltb→lt, lit<}
use Rattle.std.proofs.Math.Nat.{one-le-pow}
use borrow.Author.Differences.{up, down}
use Rattle.fractions.specs.Fractions.{Fraction}

-- the product of the powers pᵢ ^ xᵢ; an exponent that is not there is 0
abbrev pub product : List ℕ → List ℕ → ℕ
product [] xs = 1
product (p ∷ ps) [] = 1
product (p ∷ ps) (x ∷ xs) = p ^ x * product ps xs

-- none of the numbers is 0
abbrev pub positive : List ℕ → Bool
positive [] = true
positive (p ∷ ps) = nat_lt 0 p && positive ps

pub left_of : (a b : Bool) → T (a && b) → T a
left_of true b t = tt
left_of false b t = t

pub right_of : (a b : Bool) → T (a && b) → T b
right_of true b t = t
right_of false b t = absurd t

pub product_pos : (ps xs : List ℕ) → T (positive ps) → 0 < product ps xs
product_pos [] xs t = lit< tt
product_pos (p ∷ ps) [] t = lit< tt
product_pos (p ∷ ps) (x ∷ xs) t =
    mul-pos (one-le-pow x p (ltb→lt 0 p (left_of (nat_lt 0 p) (positive ps) t))) (product_pos ps xs (right_of (nat_lt 0 p) (positive ps) t))

-- the product of the powers pᵢ ^ eᵢ, where exponents have signs: `up e` is e, or 0 where e is negative, and `down e` is -e, or 0 where e is positive
abbrev pub fraction : (ps : List ℕ) → T (positive ps) → List ℤ → Fraction
fraction ps t es = record { num = product ps (map up es); den = product ps (map down es); num_pos = product_pos ps (map up es) t; den_pos = product_pos ps (map down es) t }

-- how often p divides n, in at most `turns` divisions
abbrev pub divisions : ℕ → ℕ → ℕ → ℕ
divisions zero p n = 0
divisions (suc turns) p n = cond (n % p == 0) (suc (divisions turns p (n / p))) 0

-- how often p divides n; n divisions are enough
unfoldable pub multiplicity : ℕ → ℕ → ℕ
multiplicity p n = divisions n p n

-- how far apart two numbers are
abbrev pub distance : ℕ → ℕ → ℕ
distance a b = (a - b) + (b - a)

-- the largest exponent, without its sign, of a listed prime in a over b
unfoldable pub size_over : List ℕ → ℕ → ℕ → ℕ
size_over [] a b = 0
size_over (p ∷ ps) a b = max (distance (multiplicity p a) (multiplicity p b)) (size_over ps a b)

abbrev pub size : List ℕ → Fraction → ℕ
size ps x = size_over ps x.num x.den
