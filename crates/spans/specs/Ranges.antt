-- Ranges: what spans say, as plain bounds; how they combine, join and lie in one another. Assumes nothing.
use Rattle.std.specs.Prelude.{Bool, true, false, ◌&&◌, pos, Float}
use Rattle.std.specs.Float.Ieee.{le, of_int}
use Rattle.std.specs.Float.{float_min, float_max, binary64}
use Rattle.floats.specs.Floats.{proper}
use Rattle.spans.specs.declared.bound.Bound.{Bound}
use Rattle.spans.specs.declared.bound.Bound.TheVariants.{At}
use Rattle.spans.specs.declared.operation.Operation.{Operation}
use Rattle.spans.specs.Bounds.{at_most, lesser, greater, is_low, is_high, by_number, as_real}
use Rattle.spans.specs.Combining.{whole_low, whole_high, real_low, real_high}

-- from a low to a high bound, of whole numbers or of floats
pub data Range : Type 0 where
  whole : Bound → Bound → Range
  real : Float → Float → Range

-- a span has this range: its bounds are such as its kind has, the low one at most the high one
abbrev pub sound : Range → Bool
sound (whole l h) = is_low l && is_high h && at_most l h
sound (real l h) = proper l && proper h && le l h

-- two ranges meet: where one is real, the other is turned real first
abbrev pub meeting : (Bound → Bound → Bound → Bound → Range) → (Float → Float → Float → Float → Range) → Range → Range → Range
meeting w r (whole al ah) (whole bl bh) = w al ah bl bh
meeting w r (whole al ah) (real bl bh) = r (as_real al) (as_real ah) bl bh
meeting w r (real al ah) (whole bl bh) = r al ah (as_real bl) (as_real bh)
meeting w r (real al ah) (real bl bh) = r al ah bl bh

-- a range, turned real
abbrev pub turned : Range → Range
turned (whole l h) = real (as_real l) (as_real h)
turned (real l h) = real l h

abbrev pub combined : Operation → Range → Range → Range
combined op =
    meeting
    (λ al ah bl bh. whole (whole_low op al ah bl bh) (whole_high op al ah bl bh))
    (λ al ah bl bh. real (real_low op al bl) (real_high op ah bh))

-- from the smaller low to the larger high bound
abbrev pub joined : Range → Range → Range
joined = meeting (λ al ah bl bh. whole (lesser al bl) (greater ah bh)) (λ al ah bl bh. real (float_min al bl) (float_max ah bh))

-- 0 alone
abbrev pub zero_alone : Range
zero_alone = whole (At (pos 0)) (At (pos 0))

abbrev pub holds_zero : Range → Bool
holds_zero (whole l h) = at_most l (At (pos 0)) && at_most (At (pos 0)) h
holds_zero (real l h) = le l (of_int binary64 (pos 0)) && le (of_int binary64 (pos 0)) h

-- of the same kind, and no bound beyond the outer one's
abbrev pub within : Range → Range → Bool
within (whole l h) (whole ol oh) = at_most ol l && at_most h oh
within (whole l h) (real ol oh) = false
within (real l h) (whole ol oh) = false
within (real l h) (real ol oh) = le ol l && le h oh

-- whole, from 0 or more up to a number
abbrev pub countable : Range → Bool
countable (whole l h) = at_most (At (pos 0)) l && by_number h false (λ z. true)
countable (real l h) = false
