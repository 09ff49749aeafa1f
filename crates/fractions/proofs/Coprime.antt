-- Coprime numbers without a greatest common divisor: what divides c a and c b divides c. Assumes nothing.
use Rattle.std.proofs.Common.{◌≡◌, ℕ, zero, suc, ◌+◌, ◌*◌, ◌^◌, ◌<◌, sym, ap, ◌∙◌, subst, mul_assoc, one-mul, pow-suc, mul-one, mul-add, mul_right_comm, arith}
use Prim.Native.Nat.{◌∣◌}
use native.Mathlib.Nat.{pow-zero, dvd-mul_right_of_dvd, dvd-mul_left, dvd-add_iff_right, eq-one_of_dvd-one}

abbrev pub Coprime : ℕ → ℕ → Type 0
Coprime a b = (d c : ℕ) → d ∣ c * a → d ∣ c * b → d ∣ c

pub cop_sym : (a b : ℕ) → Coprime a b → Coprime b a
cop_sym a b f d c h k = f d c k h

pub cop_one : (a : ℕ) → Coprime a 1
cop_one a d c h k = rw mul-one at k

pub cop_mul : (a x y : ℕ) → Coprime a x → Coprime a y → Coprime a (x * y)
cop_mul a x y f g d c h k =
    let k' : d ∣ (c * x) * y = rw mul_assoc k in
    let h' : d ∣ (c * x) * a = rw (mul_right_comm c x a) (dvd-mul_right_of_dvd d h x) in
    f d c h (g d (c * x) h' k')

pub cop_pow : (a x n : ℕ) → Coprime a x → Coprime a (x ^ n)
cop_pow a x zero f = subst (Coprime a) (sym (pow-zero x)) (cop_one a)
cop_pow a x (suc n) f = subst (Coprime a) (sym (pow-suc x n)) (cop_mul a (x ^ n) x (cop_pow a x n f) f)

-- q u is 1 modulo p
pub cop_inv : (p q u k : ℕ) → p * k + 1 ≡ q * u → Coprime p q
cop_inv p q u k e d c h g =
    let h' : d ∣ c * p * k = dvd-mul_right_of_dvd d h k in
    let g' : d ∣ c * q * u = dvd-mul_right_of_dvd d g u in
    let e' : c * q * u ≡ c * p * k + c = mul_assoc c q u ∙ ap (λ (x : ℕ). c * x) (sym e) ∙ mul-add c (p * k) 1 ∙ rw (mul-one, mul_assoc) in
    (dvd-add_iff_right d h').1 (subst (λ (x : ℕ). d ∣ x) e' g')

-- Gauss's lemma
pub gauss : (p q n : ℕ) → Coprime p q → p ∣ n * q → p ∣ n
gauss p q n f h = f p n (dvd-mul_left p n) h

pub cop_not : (p x : ℕ) → 1 < p → Coprime p x → ¬ (p ∣ x)
cop_not p x l f h =
    let g : p ∣ 1 = gauss p x 1 f (rw one-mul h) in
    let e : p ≡ 1 = eq-one_of_dvd-one g in
    omega arith

-- no common factor but 1
pub cop_apart : (a b : ℕ) → Coprime a b → (k : ℕ) → k ∣ a → k ∣ b → k ≡ 1
cop_apart a b f k h g = eq-one_of_dvd-one (f k 1 (rw one-mul h) (rw one-mul g))
