-- What each operation makes of the bounds of two spans, low before high. Assumes nothing.
use Rattle.std.specs.Prelude.{true, false, ℤ, ◌+ℤ◌, ◌-ℤ◌, ◌*ℤ◌, Option, Some, None, Float}
use Rattle.std.specs.Int.{int_min, int_max}
use Rattle.std.specs.Float.{float_min, float_max, inf}
use Rattle.spans.specs.declared.bound.Bound.{Bound}
use Rattle.spans.specs.declared.bound.Bound.TheVariants.{Bottom, Top}
use Rattle.spans.specs.declared.operation.Operation.{Operation}
use Rattle.spans.specs.declared.operation.Operation.TheVariants.{Sum, Difference, Product, Quotient, Minimum, Maximum}
use Rattle.spans.specs.Bounds.{lesser, greater, low_bound, high_bound, by_number}

-- the numbers that two bounds are, where both are numbers
abbrev pub both_numbers : Bound → Bound → Option (ℤ × ℤ)
both_numbers a b = by_number a None (λ x. by_number b None (λ y. Some (x, y)))

-- the low bound that two bounds make by f, the bottom unless both are numbers
abbrev pub make_low : (ℤ → ℤ → ℤ) → Bound → Bound → Bound
make_low f a b = by_number a Bottom (λ x. by_number b Bottom (λ y. low_bound (f x y)))

-- the high bound that two bounds make by f, the top unless both are numbers
abbrev pub make_high : (ℤ → ℤ → ℤ) → Bound → Bound → Bound
make_high f a b = by_number a Top (λ x. by_number b Top (λ y. high_bound (f x y)))

-- the least of the four products of the bounds a and b with the bounds c and d, or the greatest
abbrev pub least_product : (a b c d : ℤ) → ℤ
least_product a b c d = int_min (int_min (a *ℤ c) (a *ℤ d)) (int_min (b *ℤ c) (b *ℤ d))

abbrev pub greatest_product : (a b c d : ℤ) → ℤ
greatest_product a b c d = int_max (int_max (a *ℤ c) (a *ℤ d)) (int_max (b *ℤ c) (b *ℤ d))

-- f of four bounds that are numbers, or x where one is none
abbrev pub by_numbers : {X : Type 0} → (a b c d : Bound) → X → (ℤ → ℤ → ℤ → ℤ → X) → X
by_numbers a b c d x f = by_number a x (λ i. by_number b x (λ j. by_number c x (λ k. by_number d x (λ l. f i j k l))))

-- a from al to ah, b from bl to bh, of whole numbers
abbrev pub whole_low : Operation → (al ah bl bh : Bound) → Bound
whole_low Sum al ah bl bh = make_low ◌+ℤ◌ al bl
whole_low Difference al ah bl bh = make_low ◌-ℤ◌ al bh
whole_low Product al ah bl bh = by_numbers al ah bl bh Bottom (λ a b c d. low_bound (least_product a b c d))
whole_low Quotient al ah bl bh = Bottom
whole_low Minimum al ah bl bh = lesser al bl
whole_low Maximum al ah bl bh = greater al bl

abbrev pub whole_high : Operation → (al ah bl bh : Bound) → Bound
whole_high Sum al ah bl bh = make_high ◌+ℤ◌ ah bh
whole_high Difference al ah bl bh = make_high ◌-ℤ◌ ah bl
whole_high Product al ah bl bh = by_numbers al ah bl bh Top (λ a b c d. high_bound (greatest_product a b c d))
whole_high Quotient al ah bl bh = Top
whole_high Minimum al ah bl bh = lesser ah bh
whole_high Maximum al ah bl bh = greater ah bh

-- the same of floats, of which only minimum and maximum keep a bound
abbrev pub real_low : Operation → (al bl : Float) → Float
real_low Sum al bl = inf true
real_low Difference al bl = inf true
real_low Product al bl = inf true
real_low Quotient al bl = inf true
real_low Minimum al bl = float_min al bl
real_low Maximum al bl = float_max al bl

abbrev pub real_high : Operation → (ah bh : Float) → Float
real_high Sum ah bh = inf false
real_high Difference ah bh = inf false
real_high Product ah bh = inf false
real_high Quotient ah bh = inf false
real_high Minimum ah bh = float_min ah bh
real_high Maximum ah bh = float_max ah bh
