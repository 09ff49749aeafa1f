-- Products of powers: the sum of exponents is the product, and equal products have equal exponents. Assumes nothing.
use Rattle.std.proofs.Common.{◌≡◌, ℕ, zero, suc, ◌+◌, ◌-◌, ◌*◌, ◌^◌, ◌<◌, List, [], ◌∷◌, length, sym, refl, ap, ◌∙◌, subst, ap₂, mul_assoc, mul-pos, zero-mul, arith, pow-add}
use Prim.Native.Nat.{◌∣◌}
use native.Mathlib.Nat.{mul-mul-mul_comm, one-le-pow, pow-succ', eq_of_mul-eq-mul_left, dvd-mul_right}
use Rattle.fractions.specs.Powers.{product}
use Rattle.fractions.specs.Exponents.{zip_with}
use Rattle.fractions.proofs.Coprime.{Coprime, cop_one, cop_mul, cop_pow, cop_not}
use Rattle.fractions.proofs.Primes.{Apart, Primes}

pub product_cop : (p : ℕ) (ps xs : List ℕ) → Apart p ps → Coprime p (product ps xs)
product_cop p [] xs a = cop_one p
product_cop p (q ∷ ps) [] a = cop_one p
product_cop p (q ∷ ps) (x ∷ xs) a = cop_mul p (q ^ x) (product ps xs) (cop_pow p q x a.0) (product_cop p ps xs a.1)

pub product_add : (ps xs ys : List ℕ) → length xs ≡ length ps → length ys ≡ length ps → product ps (zip_with ◌+◌ xs ys) ≡ product ps xs * product ps ys
product_add [] xs ys h k = refl
product_add (p ∷ ps) [] ys h k = absurd (omega arith)
product_add (p ∷ ps) (x ∷ xs) [] h k = absurd (omega arith)
product_add (p ∷ ps) (x ∷ xs) (y ∷ ys) h k =
    ap₂ ◌*◌ (pow-add p x y) (product_add ps xs ys (omega arith) (omega arith)) ∙ mul-mul-mul_comm (p ^ x) (p ^ y) (product ps xs) (product ps ys)

-- no power of p times a number that p does not divide is a higher power of p times another
pub lower : (p x y a b : ℕ) → 1 < p → ¬ (p ∣ a) → p ^ x * a ≡ p ^ y * b → x < y → ⊥
lower p x y a b l f e h =
    let k : ℕ = y - suc x in
    let s : y ≡ x + suc k = omega arith in
    let e' : p ^ x * a ≡ p ^ x * (p * (p ^ k * b)) = e ∙ ap (λ (n : ℕ). p ^ n * b) s ∙ ap (λ (n : ℕ). n * b) (pow-add p x (suc k)) ∙ mul_assoc (p ^ x) (p ^ suc k) b ∙ ap (λ (n : ℕ). p ^ x * n) (ap (λ (n : ℕ). n * b) (pow-succ' p k) ∙ mul_assoc p (p ^ k) b) in
    let c : a ≡ p * (p ^ k * b) = eq_of_mul-eq-mul_left (p ^ x) (one-le-pow x p (omega arith)) a (p * (p ^ k * b)) e' in
    f (subst (λ (n : ℕ). p ∣ n) (sym c) (dvd-mul_right p (p ^ k * b)))

-- the exponents of equal products are equal
pub product_inj : (ps : List ℕ) → Primes ps → (xs ys : List ℕ) → length xs ≡ length ps → length ys ≡ length ps → product ps xs ≡ product ps ys → xs ≡ ys
product_inj [] b [] [] h k e = refl
product_inj [] b [] (y ∷ ys) h k e = absurd (omega arith)
product_inj [] b (x ∷ xs) ys h k e = absurd (omega arith)
product_inj (p ∷ ps) b [] ys h k e = absurd (omega arith)
product_inj (p ∷ ps) b (x ∷ xs) [] h k e = absurd (omega arith)
product_inj (p ∷ ps) b (x ∷ xs) (y ∷ ys) h k e =
    let n : ¬ (x < y) = lower p x y (product ps xs) (product ps ys) b.0.above (cop_not p (product ps xs) b.0.above (product_cop p ps xs b.1)) e in
    let m : ¬ (y < x) = lower p y x (product ps ys) (product ps xs) b.0.above (cop_not p (product ps ys) b.0.above (product_cop p ps ys b.1)) (sym e) in
    let s : x ≡ y = omega arith in
    let e' : p ^ x * product ps xs ≡ p ^ x * product ps ys = e ∙ ap (λ (i : ℕ). p ^ i * product ps ys) (sym s) in
    let r : product ps xs ≡ product ps ys = eq_of_mul-eq-mul_left (p ^ x) (one-le-pow x p (omega arith)) (product ps xs) (product ps ys) e' in
    ap₂ ◌∷◌ s (product_inj ps b.2 xs ys (omega arith) (omega arith) r)

pub product_above : (ps xs : List ℕ) → Primes ps → 0 < product ps xs
product_above [] xs b = omega arith
product_above (p ∷ ps) [] b = omega arith
product_above (p ∷ ps) (x ∷ xs) b = let l : 1 < p = b.0.above in mul-pos (one-le-pow x p (omega arith)) (product_above ps xs b.2)

-- the left factor of what is above 0
pub left_pos : (n d c : ℕ) → 0 < c → c ≡ n * d → 0 < n
left_pos zero d c h e = let z = zero-mul d in absurd (omega arith)
left_pos (suc n) d c h e = omega arith
