-- Combining and joining spans gives spans: low bounds that are low, high ones that are high, in order. Assumes nothing.
use Rattle.std.proofs.Common.{◌≡◌, true, false, ℤ, ◌+ℤ◌, ◌-ℤ◌, ◌*ℤ◌, refl, arith}
use lib.Signed.{le_z}
use lib.Ieee.{Float, inf, le}
use Rattle.std.specs.Float.{float_min, float_max}
use Rattle.std.proofs.lemmas.Int.{ints}
use Rattle.floats.specs.Floats.{proper}
use Rattle.floats.proofs.Order.{least_proper, most_proper, least_mono, most_mono, from_bottom, to_top, le_refl, float_trans, least_left, most_left, left_number, right_number, proper_number}
use Rattle.floats.proofs.Turning.{int_mono, int_proper}
use Rattle.spans.specs.declared.bound.Bound.{Bound}
use Rattle.spans.specs.declared.bound.Bound.TheVariants.{At}
use Rattle.spans.specs.declared.operation.Operation.{Operation}
use Rattle.spans.specs.Bounds.{at_most, lesser, greater, is_low, is_high, as_real}
use Rattle.spans.specs.Combining.{least_product, greatest_product, whole_low, whole_high, real_low, real_high}
use Rattle.spans.proofs.Order.{bound_refl, bound_trans, lesser_left, greater_left, lesser_mono, greater_mono, low_is_low, high_is_high, in_order, number_trans}
use Rattle.spans.proofs.Products.{least_below, greatest_above}

-- ---- whole spans
pub whole_starts : (op : Operation) (al ah bl bh : Bound) → is_low al ≡ true → is_low bl ≡ true → is_low (whole_low op al ah bl bh) ≡ true
whole_starts op al ah bl bh h k = grind (arith, low_is_low)

pub whole_ends : (op : Operation) (al ah bl bh : Bound) → is_high ah ≡ true → is_high bh ≡ true → is_high (whole_high op al ah bl bh) ≡ true
whole_ends op al ah bl bh h k = grind (arith, high_is_high)

sums_ordered : (w x y z : ℤ) → le_z w y ≡ true → le_z x z ≡ true → le_z (w +ℤ x) (y +ℤ z) ≡ true
sums_ordered w x y z h k = grind (arith, ints)

differences_ordered : (w x y z : ℤ) → le_z w y ≡ true → le_z z x ≡ true → le_z (w -ℤ x) (y -ℤ z) ≡ true
differences_ordered w x y z h k = grind (arith, ints)

products_ordered : (a b c d : ℤ) → le_z a b ≡ true → le_z c d ≡ true → le_z (least_product a b c d) (greatest_product a b c d) ≡ true
products_ordered a b c d h k =
    let ha = bound_refl (At a) in
    let hc = bound_refl (At c) in
    number_trans (least_product a b c d) (a *ℤ c) (greatest_product a b c d) (least_below a a b c c d ha h hc k) (greatest_above a a b c c d ha h hc k)

pub whole_ordered : (op : Operation) (al ah bl bh : Bound) → at_most al ah ≡ true → at_most bl bh ≡ true → at_most (whole_low op al ah bl bh) (whole_high op al ah bl bh) ≡ true
whole_ordered op al ah bl bh h k = grind (arith, in_order, sums_ordered, differences_ordered, products_ordered, lesser_mono, greater_mono)

pub join_ordered : (al ah bl bh : Bound) → at_most al ah ≡ true → at_most (lesser al bl) (greater ah bh) ≡ true
join_ordered al ah bl bh h = grind (arith, bound_trans, lesser_left, greater_left)

-- the lesser of low bounds is low, and the greater of high ones high
pub lesser_low : (a b : Bound) → is_low a ≡ true → is_low b ≡ true → is_low (lesser a b) ≡ true
lesser_low a b h k = grind arith

pub greater_high : (a b : Bound) → is_high a ≡ true → is_high b ≡ true → is_high (greater a b) ≡ true
greater_high a b h k = grind arith

pub ruleset whole_sound = (whole_starts, whole_ends, whole_ordered)

-- ---- real spans
pub real_starts : (op : Operation) (al bl : Float) → proper al ≡ true → proper bl ≡ true → proper (real_low op al bl) ≡ true
real_starts op al bl h k = grind (arith, least_proper, most_proper)

pub real_ends : (op : Operation) (ah bh : Float) → proper ah ≡ true → proper bh ≡ true → proper (real_high op ah bh) ≡ true
real_ends op ah bh h k = grind (arith, least_proper, most_proper)

pub all_ordered : le (inf true) (inf false) ≡ true
unfolding le
all_ordered = refl

pub real_ordered : (op : Operation) (al ah bl bh : Float) → le al ah ≡ true → le bl bh ≡ true → le (real_low op al bl) (real_high op ah bh) ≡ true
real_ordered op al ah bl bh h k = grind (arith, all_ordered, least_mono, most_mono)

pub real_join_ordered : (al ah bl bh : Float) → le al ah ≡ true → le bl bh ≡ true → le (float_min al bl) (float_max ah bh) ≡ true
real_join_ordered al ah bl bh h k =
    let low = least_left al bl (left_number al ah h) (left_number bl bh k) in
    let high = most_left ah bh (right_number al ah h) (right_number bl bh k) in
    float_trans (float_min al bl) al (float_max ah bh) low (float_trans al ah (float_max ah bh) h high)

pub ruleset real_sound = (real_starts, real_ends, all_ordered, real_ordered)

pub ruleset real_joined = (least_proper, most_proper, real_join_ordered)

-- ---- whole spans turned real
pub turned_proper : (b : Bound) → proper (as_real b) ≡ true
turned_proper b = grind (arith, int_proper)

pub turned_ordered : (a b : Bound) → at_most a b ≡ true → le (as_real a) (as_real b) ≡ true
turned_ordered a b h = grind (arith, from_bottom, to_top, proper_number, turned_proper, int_mono, le_refl)

pub ruleset turned_sound = (turned_proper, turned_ordered)
