-- Bit patterns of proper floats. Assumes nothing.
use Rattle.std.proofs.Common.{◌≡◌, ℕ, zero, ◌+◌, ◌-◌, ◌*◌, ◌/◌, ◌^◌, ◌<◌, true, false, not, T, ℤ, pos, refl, ap, ◌∙◌, zero-mul, arith}
use native.Mathlib.Nat.{zero-div}
use lib.Ieee.{Float, inf, fin, up, down, low, size, is_nan, binary64, of_bits, to_bits, of_int}
use lib.Ieee.Bits.{to_bits-of_bits, of_bits-to_bits}
use Rattle.std.proofs.lemmas.Bool.Decides.{nat_tests}
use Rattle.floats.specs.Floats.{proper}
use Rattle.floats.proofs.Order.{not_nan, left_number, right_number}

-- -0 is not proper
minus_zero : proper (of_bits binary64 9223372036854775808) ≡ false
unfolding of_bits
minus_zero = refl

pub minus_pattern : (b : ℕ) → b ≡ 9223372036854775808 → proper (of_bits binary64 b) ≡ false
minus_pattern b e = ap (λ n. proper (of_bits binary64 n)) e ∙ minus_zero

-- the pattern of -0
zero_pattern : (d : ℤ) → to_bits binary64 (fin true zero d) ≡ 9223372036854775808
unfolding to_bits
zero_pattern d =
    let none : zero * up d * 2 ^ low binary64 / down d ≡ 0 = ap (λ n. n * 2 ^ low binary64 / down d) (zero-mul (up d)) ∙ ap (λ n. n / down d) (zero-mul (2 ^ low binary64)) ∙ zero-div (down d) in
    ap (λ n. 9223372036854775808 + (size n - 53) * 4503599627370496 + n / 2 ^ (size n - 53)) none

by_pattern : (v : Float) (b : ℕ) → to_bits binary64 v ≡ b → (b ≡ 9223372036854775808 → ⊥) → T (not (is_nan v)) → proper v ≡ true
unfolding to_bits is_nan
by_pattern v b e h n = grind (arith, nat_tests, zero_pattern)

-- any other pattern of a number is
pub pattern_proper : (b : ℕ) → b < 2 ^ 64 → (b ≡ 9223372036854775808 → ⊥) → is_nan (of_bits binary64 b) ≡ false → proper (of_bits binary64 b) ≡ true
pattern_proper b small h n =
    let k = not_nan (of_bits binary64 b) n in
    by_pattern (of_bits binary64 b) b (to_bits-of_bits binary64 b small k) h k

-- the patterns of the infinities and of 0
pub minus_infinity : of_bits binary64 18442240474082181120 ≡ inf true
unfolding of_bits
minus_infinity = refl

pub infinity : of_bits binary64 9218868437227405312 ≡ inf false
unfolding of_bits
infinity = refl

pub nothing : of_bits binary64 0 ≡ of_int binary64 (pos 0)
unfolding of_bits of_int
nothing = refl

pub ruleset literals = (minus_infinity, infinity, nothing)

-- what is known of patterns read and written
pub ruleset patterns = (minus_pattern, pattern_proper, left_number, right_number, of_bits-to_bits)
