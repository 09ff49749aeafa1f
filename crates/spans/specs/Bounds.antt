-- Bounds of whole spans: their order, and how numbers become bounds. Assumes nothing.
use Rattle.std.specs.Prelude.{Bool, true, false, cond, ℤ, pos, negsuc, Some, None, Option, int_le, int_lt, Float}
use Rattle.std.specs.Float.{inf, binary64}
use Rattle.std.specs.Float.Ieee.{of_int}
use Rattle.spans.specs.declared.bound.Bound.{Bound}
use Rattle.spans.specs.declared.bound.Bound.TheVariants.{Bottom, At, Top}

-- the 32-bit numbers
abbrev pub smallest : ℤ
smallest = negsuc 2147483647

abbrev pub largest : ℤ
largest = pos 2147483647

-- bottom is the least bound, top the greatest
abbrev pub at_most : Bound → Bound → Bool
at_most Bottom Bottom = true
at_most Bottom (At y) = true
at_most Bottom Top = true
at_most (At x) Bottom = false
at_most (At x) (At y) = int_le x y
at_most (At x) Top = true
at_most Top Bottom = false
at_most Top (At y) = false
at_most Top Top = true

abbrev pub lesser : Bound → Bound → Bound
lesser a b = cond (at_most a b) a b

abbrev pub greater : Bound → Bound → Bound
greater a b = cond (at_most a b) b a

-- a low bound is a number or the bottom
abbrev pub is_low : Bound → Bool
is_low Bottom = true
is_low (At x) = true
is_low Top = false

-- a high bound is a number or the top
abbrev pub is_high : Bound → Bool
is_high Bottom = false
is_high (At x) = true
is_high Top = true

-- a number as a bound, or another bound where it is below 32 bits or above them
abbrev pub bound_at : ℤ → Bound → Bound → Bound
bound_at z below above = cond (int_lt z smallest) below (cond (int_lt largest z) above (At z))

-- a number as a low bound: below 32 bits it becomes the bottom, above them the largest number
abbrev pub low_bound : ℤ → Bound
low_bound z = cond (int_lt z smallest) Bottom (cond (int_lt largest z) (At largest) (At z))

-- a number as a high bound: above 32 bits it becomes the top, below them the smallest number
abbrev pub high_bound : ℤ → Bound
high_bound z = cond (int_lt largest z) Top (cond (int_lt z smallest) (At smallest) (At z))

-- the number that a bound is
abbrev pub number : Bound → Option ℤ
number Bottom = None
number (At z) = Some z
number Top = None

-- f of the number, or x where the bound is none
abbrev pub by_number : {X : Type 0} → Bound → X → (ℤ → X) → X
by_number Bottom x f = x
by_number (At z) x f = f z
by_number Top x f = x

-- a bound, turned real
abbrev pub as_real : Bound → Float
as_real Bottom = inf true
as_real (At z) = of_int binary64 z
as_real Top = inf false
