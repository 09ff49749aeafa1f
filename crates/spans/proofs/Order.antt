-- The order of bounds and of numbers; the lesser and the greater of two. Assumes nothing.
use Rattle.std.proofs.Common.{◌≡◌, true, false, ℤ, arith, rules}
use lib.Signed.{le_z}
use Rattle.std.specs.Int.{int_min, int_max}
use Rattle.std.specs.Ordering.{ord_min, ord_max, is_le}
use Rattle.std.proofs.lemmas.Int.{ints}
use Rattle.spans.specs.contracts.bound.BoundOrd.TheImpl.{cmp-value}
use Rattle.spans.specs.declared.bound.Bound.{Bound}
use Rattle.spans.specs.declared.bound.Bound.TheVariants.{Bottom, At, Top}
use Rattle.spans.specs.Bounds.{at_most, lesser, greater, is_low, is_high, low_bound, high_bound}

-- ---- bounds
pub bottom_least : (b : Bound) → at_most Bottom b ≡ true
bottom_least b = search rules

pub top_greatest : (b : Bound) → at_most b Top ≡ true
top_greatest b = search rules

pub bound_refl : (b : Bound) → at_most b b ≡ true
bound_refl b = grind (arith, ints)

pub bound_trans : (a b c : Bound) → at_most a b ≡ true → at_most b c ≡ true → at_most a c ≡ true
bound_trans a b c h k = grind (arith, ints)

bound_total : (a b : Bound) → at_most a b ≡ false → at_most b a ≡ true
bound_total a b h = grind (arith, ints)

-- the derived order is this one
pub derived_order : (a b : Bound) → is_le (cmp-value.it a b) ≡ at_most a b
derived_order a b = search rules

pub derived_min : (a b : Bound) → ord_min cmp-value.it a b ≡ lesser a b
derived_min a b = search rules

pub derived_max : (a b : Bound) → ord_max cmp-value.it a b ≡ greater a b
derived_max a b = search rules

pub ruleset derived = (derived_min, derived_max)

pub lesser_left : (a b : Bound) → at_most (lesser a b) a ≡ true
lesser_left a b = grind (arith, bound_refl, bound_total)

pub lesser_right : (a b : Bound) → at_most (lesser a b) b ≡ true
lesser_right a b = grind (arith, bound_refl, bound_total)

pub greater_left : (a b : Bound) → at_most a (greater a b) ≡ true
greater_left a b = grind (arith, bound_refl, bound_total)

pub greater_right : (a b : Bound) → at_most b (greater a b) ≡ true
greater_right a b = grind (arith, bound_refl, bound_total)

-- both keep the order
pub lesser_mono : (a x b y : Bound) → at_most a x ≡ true → at_most b y ≡ true → at_most (lesser a b) (lesser x y) ≡ true
lesser_mono a x b y h k = grind (arith, bound_trans, bound_total)

pub greater_mono : (a x b y : Bound) → at_most a x ≡ true → at_most b y ≡ true → at_most (greater a b) (greater x y) ≡ true
greater_mono a x b y h k = grind (arith, bound_trans, bound_total)

-- ---- numbers as bounds: no bound cuts its number off
pub below_number : (z : ℤ) → at_most (low_bound z) (At z) ≡ true
below_number z = grind (arith, ints)

pub above_number : (z : ℤ) → at_most (At z) (high_bound z) ≡ true
above_number z = grind (arith, ints)

pub low_is_low : (z : ℤ) → is_low (low_bound z) ≡ true
low_is_low z = grind arith

pub high_is_high : (z : ℤ) → is_high (high_bound z) ≡ true
high_is_high z = grind arith

-- a lower number's low bound is at most a higher number's high bound
pub in_order : (y z : ℤ) → le_z y z ≡ true → at_most (low_bound y) (high_bound z) ≡ true
in_order y z h = grind (arith, ints)

-- ---- the least and the greatest of two numbers
pub min_left : (x y : ℤ) → le_z (int_min x y) x ≡ true
min_left x y = grind (arith, ints)

pub min_right : (x y : ℤ) → le_z (int_min x y) y ≡ true
min_right x y = grind (arith, ints)

pub max_left : (x y : ℤ) → le_z x (int_max x y) ≡ true
max_left x y = grind (arith, ints)

pub max_right : (x y : ℤ) → le_z y (int_max x y) ≡ true
max_right x y = grind (arith, ints)

pub number_trans : (x y z : ℤ) → le_z x y ≡ true → le_z y z ≡ true → le_z x z ≡ true
number_trans x y z h k = grind (arith, ints)

-- as bounds, the least is the lesser and the greatest the greater
pub min_is_lesser : (x y : ℤ) → At (int_min x y) ≡ lesser (At x) (At y)
min_is_lesser x y = grind (arith, ints)

pub max_is_greater : (x y : ℤ) → At (int_max x y) ≡ greater (At x) (At y)
max_is_greater x y = grind (arith, ints)
