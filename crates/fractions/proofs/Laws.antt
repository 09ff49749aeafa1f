-- The positive fractions are a commuting group up to `same`. Assumes nothing.
use Rattle.std.proofs.Common.{ℕ, ◌*◌, sym, refl, ap, ◌∙◌, ap₂, mul_assoc, mul_comm, mul-pos, one-mul, mul-one, mul_left_comm}
use native.Mathlib.Nat.{mul-mul-mul_comm, eq_of_mul-eq-mul_left}
use Rattle.fractions.specs.Fractions.{Fraction, same, mul, inv, one}

ruleset ac = (mul_assoc, mul_comm, mul_left_comm)

pub same_refl : (x : Fraction) → same x x
same_refl x = refl

pub same_sym : (x y : Fraction) → same x y → same y x
same_sym x y e = sym e

-- a/b = c/d and c/d = e/f, so d (a f) = d (e b)
pub same_trans : (x y z : Fraction) → same x y → same y z → same x z
same_trans x y z p q =
    eq_of_mul-eq-mul_left y.den y.den_pos (x.num * z.den) (z.num * x.den)
    (mul_left_comm y.den x.num z.den ∙ sym (mul_assoc x.num y.den z.den) ∙ ap (λ (n : ℕ). n * z.den) p ∙ (simp ac) ∙ ap (λ (n : ℕ). n * x.den) q ∙ (simp ac))

pub mul_same : (x x' y y' : Fraction) → same x x' → same y y' → same (mul x y) (mul x' y')
mul_same x x' y y' p q =
    mul-mul-mul_comm x.num y.num x'.den y'.den ∙ ap₂ ◌*◌ p q ∙ mul-mul-mul_comm x'.num x.den y'.num y.den

pub inv_same : (x y : Fraction) → same x y → same (inv x) (inv y)
inv_same x y p = mul_comm x.den y.num ∙ sym p ∙ mul_comm x.num y.den

pub assoc : (x y z : Fraction) → same (mul (mul x y) z) (mul x (mul y z))
assoc x y z = simp ac

pub comm : (x y : Fraction) → same (mul x y) (mul y x)
comm x y = simp ac

pub unit_left : (x : Fraction) → same (mul one x) x
unit_left x = simp (one-mul, mul_comm)

pub inverse : (x : Fraction) → same (mul (inv x) x) one
inverse x = mul-one (x.den * x.num) ∙ mul_comm x.den x.num ∙ sym (one-mul (x.num * x.den))

pub cancel : (x y z : Fraction) → same (mul x z) (mul y z) → same x y
cancel x y z e =
    eq_of_mul-eq-mul_left (z.num * z.den) (mul-pos z.num_pos z.den_pos) (x.num * y.den) (y.num * x.den)
    (mul_comm (z.num * z.den) (x.num * y.den) ∙ mul-mul-mul_comm x.num y.den z.num z.den ∙ e ∙ mul-mul-mul_comm y.num z.num x.den z.den ∙ mul_comm (y.num * x.den) (z.num * z.den))
