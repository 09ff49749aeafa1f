-- Products of numbers between bounds lie between the least and the greatest product of the bounds. Assumes nothing.
use Rattle.std.proofs.Common.{◌≡◌, ℕ, suc, true, ℤ, pos, negsuc, ◌*ℤ◌, neg_ℤ, ◌∙◌, mul-le-mul_right, arith}
use lib.IntN.{*ℤ_comm, *ℤ-negsuc}
use lib.Signed.{le_z}
use Rattle.std.specs.Int.{int_min, int_max}
use Rattle.std.proofs.lemmas.Int.{ints}
use Rattle.spans.specs.Combining.{least_product, greatest_product}
use Rattle.spans.proofs.Order.{min_left, min_right, max_left, max_right, number_trans}

neg_turns : (x y : ℤ) → le_z x y ≡ true → le_z (neg_ℤ y) (neg_ℤ x) ≡ true
neg_turns x y h = grind (arith, ints)

times_plus : (a x : ℤ) (n : ℕ) → le_z a x ≡ true → le_z (a *ℤ pos n) (x *ℤ pos n) ≡ true
times_plus a x n h = grind (arith, ints, mul-le-mul_right)

times_minus : (a x : ℤ) (n : ℕ) → le_z a x ≡ true → le_z (x *ℤ negsuc n) (a *ℤ negsuc n) ≡ true
times_minus a x n h = (λ i. le_z (*ℤ-negsuc x n i) (*ℤ-negsuc a n i)) ∙ neg_turns (a *ℤ pos (suc n)) (x *ℤ pos (suc n)) (times_plus a x (suc n) h)

-- x from a to b
from_least : (a x b y : ℤ) → le_z a x ≡ true → le_z x b ≡ true → le_z (int_min (a *ℤ y) (b *ℤ y)) (x *ℤ y) ≡ true
from_least a x b (pos n) h k = number_trans _ (a *ℤ pos n) _ (min_left (a *ℤ pos n) (b *ℤ pos n)) (times_plus a x n h)
from_least a x b (negsuc n) h k = number_trans _ (b *ℤ negsuc n) _ (min_right (a *ℤ negsuc n) (b *ℤ negsuc n)) (times_minus x b n k)

to_greatest : (a x b y : ℤ) → le_z a x ≡ true → le_z x b ≡ true → le_z (x *ℤ y) (int_max (a *ℤ y) (b *ℤ y)) ≡ true
to_greatest a x b (pos n) h k = number_trans _ (b *ℤ pos n) _ (times_plus x b n k) (max_right (a *ℤ pos n) (b *ℤ pos n))
to_greatest a x b (negsuc n) h k = number_trans _ (a *ℤ negsuc n) _ (times_minus a x n h) (max_left (a *ℤ negsuc n) (b *ℤ negsuc n))

-- the same of the second factor
from_least_right : (c y d a : ℤ) → le_z c y ≡ true → le_z y d ≡ true → le_z (int_min (a *ℤ c) (a *ℤ d)) (a *ℤ y) ≡ true
from_least_right c y d a h k = (λ i. le_z (int_min (*ℤ_comm a c i) (*ℤ_comm a d i)) (*ℤ_comm a y i)) ∙ from_least c y d a h k

to_greatest_right : (c y d a : ℤ) → le_z c y ≡ true → le_z y d ≡ true → le_z (a *ℤ y) (int_max (a *ℤ c) (a *ℤ d)) ≡ true
to_greatest_right c y d a h k = (λ i. le_z (*ℤ_comm a y i) (int_max (*ℤ_comm a c i) (*ℤ_comm a d i))) ∙ to_greatest c y d a h k

-- the least of least ones, and the greatest of greatest ones
least_of : (p q r s u v z : ℤ) → le_z (int_min p q) u ≡ true → le_z (int_min r s) v ≡ true → le_z (int_min u v) z ≡ true → le_z (int_min (int_min p q) (int_min r s)) z ≡ true
least_of p q r s u v z h k l = grind (arith, ints)

greatest_of : (p q r s u v z : ℤ) → le_z u (int_max p q) ≡ true → le_z v (int_max r s) ≡ true → le_z z (int_max u v) ≡ true → le_z z (int_max (int_max p q) (int_max r s)) ≡ true
greatest_of p q r s u v z h k l = grind (arith, ints)

-- x from a to b, y from c to d
pub least_below : (a x b c y d : ℤ) → le_z a x ≡ true → le_z x b ≡ true → le_z c y ≡ true → le_z y d ≡ true → le_z (least_product a b c d) (x *ℤ y) ≡ true
least_below a x b c y d ax xb cy yd =
    least_of (a *ℤ c) (a *ℤ d) (b *ℤ c) (b *ℤ d) (a *ℤ y) (b *ℤ y) (x *ℤ y) (from_least_right c y d a cy yd) (from_least_right c y d b cy yd) (from_least a x b y ax xb)

pub greatest_above : (a x b c y d : ℤ) → le_z a x ≡ true → le_z x b ≡ true → le_z c y ≡ true → le_z y d ≡ true → le_z (x *ℤ y) (greatest_product a b c d) ≡ true
greatest_above a x b c y d ax xb cy yd =
    greatest_of (a *ℤ c) (a *ℤ d) (b *ℤ c) (b *ℤ d) (a *ℤ y) (b *ℤ y) (x *ℤ y) (to_greatest_right c y d a cy yd) (to_greatest_right c y d b cy yd) (to_greatest a x b y ax xb)
