-- Proper 64-bit floats that are at most one another are one float, and so the least and the most of two do not hang on their order. Assumes nothing.
use Rattle.std.proofs.Common.{◌≡◌, ℕ, ◌+◌, ◌-◌, ◌*◌, ◌/◌, ◌^◌, Bool, true, false, cond, T, ℤ, sym, ap, ◌∙◌, arith}
use native.Mathlib.Nat.{mul_right_comm}
use lib.Ieee.{Float, fin, up, down, low, size, le, fits, binary64, of_bits, to_bits}
use lib.Ieee.Bits.{of_bits-to_bits}
use lib.Ieee.Fits.{up_pos, down_pos}
use lib.Ieee.Nearest.{div_same}
use Rattle.std.proofs.lemmas.Bool.Decides.{nat_tests}
use Rattle.std.specs.Float.{float_min, float_max}
use Rattle.floats.specs.Floats.{proper}
use Rattle.floats.proofs.Order.{zero_of, proper_number, le_total}

-- ---- one number is written in one way
one_magnitude : (m n : ℕ) (e d : ℤ) → m * up e * down d ≡ n * up d * down e → m * up e * 2 ^ low binary64 / down e ≡ n * up d * 2 ^ low binary64 / down d
one_magnitude m n e d h =
    let l = 2 ^ low binary64 in
    div_same (m * up e * l) (down e) (n * up d * l) (down d) (down_pos e) (down_pos d)
    (mul_right_comm (m * up e) l (down d) ∙ ap (λ (x : ℕ). x * l) h ∙ mul_right_comm (n * up d) (down e) l)

one_pattern : (s : Bool) (m n : ℕ) (e d : ℤ) → m * up e * down d ≡ n * up d * down e → to_bits binary64 (fin s m e) ≡ to_bits binary64 (fin s n d)
unfolding to_bits
one_pattern s m n e d h =
    ap (λ x. cond s 9223372036854775808 0 + (size x - 53) * 4503599627370496 + x / 2 ^ (size x - 53)) (one_magnitude m n e d h)

one_float : (s : Bool) (m n : ℕ) (e d : ℤ) → T (fits binary64 (fin s m e)) → T (fits binary64 (fin s n d)) → m * up e * down d ≡ n * up d * down e → fin s m e ≡ fin s n d
one_float s m n e d p q h =
    sym (of_bits-to_bits binary64 (fin s m e) p) ∙ ap (of_bits binary64) (one_pattern s m n e d h) ∙ of_bits-to_bits binary64 (fin s n d) q

-- a negative proper float is no zero
no_minus_zero : {P : Type 0} (m : ℕ) (e : ℤ) (d : ℤ) → proper (fin true m e) ≡ true → m * up e * down d ≡ 0 → P
no_minus_zero m e d p h =
    let z : m ≡ 0 = zero_of m (up e) (up_pos e) (zero_of (m * up e) (down d) (down_pos d) h) in
    absurd (grind (arith, nat_tests))

one_finite : (s t : Bool) (m n : ℕ) (e d : ℤ) → T (fits binary64 (fin s m e)) → T (fits binary64 (fin t n d)) → proper (fin s m e) ≡ true → proper (fin t n d) ≡ true
    → le (fin s m e) (fin t n d) ≡ true → le (fin t n d) (fin s m e) ≡ true → fin s m e ≡ fin t n d
unfolding le
one_finite true true m n e d f g p q h k = one_float true m n e d f g (grind (arith, nat_tests))
one_finite false false m n e d f g p q h k = one_float false m n e d f g (grind (arith, nat_tests))
one_finite true false m n e d f g p q h k = no_minus_zero m e d p (grind (arith, nat_tests))
one_finite false true m n e d f g p q h k = no_minus_zero n d e q (grind (arith, nat_tests))

pub le_antisymm : (x y : Float) → T (fits binary64 x) → T (fits binary64 y) → proper x ≡ true → proper y ≡ true → le x y ≡ true → le y x ≡ true → x ≡ y
unfolding le
le_antisymm x y f g p q h k = grind (arith, one_finite)

-- ---- so the least and the most of two are the same either way round
pub min_swap : (x y : Float) → T (fits binary64 x) → T (fits binary64 y) → proper x ≡ true → proper y ≡ true → float_min y x ≡ float_min x y
min_swap x y f g p q = grind (arith, le_antisymm, le_total, proper_number)

pub max_swap : (x y : Float) → T (fits binary64 x) → T (fits binary64 y) → proper x ≡ true → proper y ≡ true → float_max y x ≡ float_max x y
max_swap x y f g p q = grind (arith, le_antisymm, le_total, proper_number)

pub ruleset either_way = (min_swap, max_swap)
