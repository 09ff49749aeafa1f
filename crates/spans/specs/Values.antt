-- Values of signals: which lie in a range, and what operations make of two. Assumes nothing.
use Rattle.std.specs.Prelude.{◌≡◌, false, T, ◌⊎◌, ℤ, ◌+ℤ◌, ◌-ℤ◌, ◌*ℤ◌, is_nan, Float}
use Rattle.std.specs.Float.Ieee.{le, of_int}
use Rattle.std.specs.Int.{int_min, int_max}
use Rattle.std.specs.Float.{float_min, float_max, binary64}
use Rattle.spans.specs.declared.bound.Bound.TheVariants.{At}
use Rattle.spans.specs.declared.operation.Operation.{Operation}
use Rattle.spans.specs.declared.operation.Operation.TheVariants.{Sum, Difference, Product, Quotient, Minimum, Maximum}
use Rattle.spans.specs.Bounds.{at_most}
use Rattle.spans.specs.Ranges.{Range, whole, real}

-- a whole number, of whatever size, or a float
pub data Value : Type 0 where
  integer : ℤ → Value
  float : Float → Value

-- the value lies in the range, and is of its kind
abbrev pub Holds : Range → Value → Type 0
Holds (whole l h) (integer z) = T (at_most l (At z)) × T (at_most (At z) h)
Holds (whole l h) (float x) = ⊥
Holds (real l h) (integer z) = ⊥
Holds (real l h) (float x) = T (le l x) × T (le x h)

-- z is what the operation makes of x and y; whatever a quotient is, it counts
abbrev pub WholeOutcome : Operation → ℤ → ℤ → ℤ → Type 0
WholeOutcome Sum x y z = z ≡ x +ℤ y
WholeOutcome Difference x y z = z ≡ x -ℤ y
WholeOutcome Product x y z = z ≡ x *ℤ y
WholeOutcome Quotient x y z = Unit {0}
WholeOutcome Minimum x y z = z ≡ int_min x y
WholeOutcome Maximum x y z = z ≡ int_max x y

-- the same of floats; whatever the first four are, if a number at all, it counts
abbrev pub RealOutcome : Operation → Float → Float → Float → Type 0
RealOutcome Sum x y z = is_nan z ≡ false
RealOutcome Difference x y z = is_nan z ≡ false
RealOutcome Product x y z = is_nan z ≡ false
RealOutcome Quotient x y z = is_nan z ≡ false
RealOutcome Minimum x y z = z ≡ float_min x y
RealOutcome Maximum x y z = z ≡ float_max x y

-- a whole value that meets a float is turned real first
abbrev pub Outcome : Operation → Value → Value → Value → Type 0
Outcome op (integer x) (integer y) (integer z) = WholeOutcome op x y z
Outcome op (integer x) (integer y) (float z) = ⊥
Outcome op (integer x) (float y) (integer z) = ⊥
Outcome op (integer x) (float y) (float z) = RealOutcome op (of_int binary64 x) y z
Outcome op (float x) (integer y) (integer z) = ⊥
Outcome op (float x) (integer y) (float z) = RealOutcome op x (of_int binary64 y) z
Outcome op (float x) (float y) (integer z) = ⊥
Outcome op (float x) (float y) (float z) = RealOutcome op x y z

-- the value as one of the range's kind
abbrev pub in_kind : Range → Value → Value
in_kind (whole l h) v = v
in_kind (real l h) (integer z) = float (of_int binary64 z)
in_kind (real l h) (float x) = float x

-- c contains what the operation makes of any value in a and any in b
abbrev pub Contains : Operation → (a b c : Range) → Type 0
Contains op a b c = (v w u : Value) → Holds a v → Holds b w → Outcome op v w u → Holds c u

-- c contains every value in a and every value in b
abbrev pub Covers : (a b c : Range) → Type 0
Covers a b c = (v : Value) → Holds a v ⊎ Holds b v → Holds c (in_kind c v)

-- every value in a lies in b
abbrev pub Inside : (a b : Range) → Type 0
Inside a b = (v : Value) → Holds a v → Holds b v
