-- A product of powers is a fraction in lowest terms. Assumes nothing.
use Rattle.std.proofs.Common.{◌≡◌, ℕ, suc, ◌/◌, ◌*◌, ◌^◌, T, List, [], ◌∷◌, map, ℤ, pos, negsuc, sym, refl, ◌∙◌, ap, subst, mul_comm, mul_assoc, one-mul}
use Prim.Native.Nat.{◌∣◌}
use Rattle.std.proofs.Math.Nat.{div-mul_cancel, eq_of_mul-eq-mul_left}
use native.Mathlib.Nat.{pow-zero, dvd-mul_right}
use borrow.Author.Differences.{up, down}
use Rattle.fractions.specs.Fractions.{Fraction, same}
use Rattle.fractions.specs.Powers.{product, positive, product_pos, fraction}
use Rattle.fractions.specs.Reduced.{Reduced}
use Rattle.fractions.proofs.Coprime.{Coprime, cop_sym, cop_one, cop_mul, cop_pow, cop_apart, gauss}
use Rattle.fractions.proofs.Primes.{Primes}
use Rattle.fractions.proofs.Products.{product_cop}

-- p to the x times a, and p to the 0 times b
one_side : (p x a b : ℕ) → Coprime p b → Coprime a b → Coprime (p ^ x * a) (p ^ 0 * b)
one_side p x a b f g =
    let n : ℕ = p ^ x * a in
    cop_mul n (p ^ 0) b (subst (Coprime n) (sym (pow-zero p)) (cop_one n))
    (cop_sym b n (cop_mul b (p ^ x) a (cop_pow b p x (cop_sym p b f)) (cop_sym a b g)))

parts_cop : (ps : List ℕ) → Primes ps → (es : List ℤ) → Coprime (product ps (map up es)) (product ps (map down es))
parts_cop [] b es = cop_one 1
parts_cop (p ∷ ps) b [] = cop_one 1
parts_cop (p ∷ ps) b (pos n ∷ es) = one_side p n (product ps (map up es)) (product ps (map down es)) (product_cop p ps (map down es) b.1) (parts_cop ps b.2 es)
parts_cop (p ∷ ps) b (negsuc n ∷ es) =
    let u : ℕ = product ps (map up es) in
    let d : ℕ = product ps (map down es) in
    cop_sym (p ^ suc n * d) (p ^ 0 * u) (one_side p (suc n) d u (product_cop p ps (map up es) b.1) (cop_sym u d (parts_cop ps b.2 es)))

-- the numerator and the denominator have no common factor
pub reduced : (ps : List ℕ) (t : T (positive ps)) → Primes ps → (es : List ℤ) → Reduced (fraction ps t es) (product ps (map up es)) (product ps (map down es))
reduced ps t b es =
    record {
      above = product_pos ps (map up es) t;
      below = product_pos ps (map down es) t;
      equal = refl;
      apart = cop_apart (product ps (map up es)) (product ps (map down es)) (parts_cop ps b es);
    }

-- whatever fraction is the same has a multiple of the numerator, and of the denominator
pub multiples : (ps : List ℕ) (t : T (positive ps)) → Primes ps → (es : List ℤ) (x : Fraction) → same x (fraction ps t es) → (product ps (map up es) ∣ x.num) × (product ps (map down es) ∣ x.den)
multiples ps t b es x e =
    let n : ℕ = product ps (map up es) in
    let d : ℕ = product ps (map down es) in
    let f : Coprime n d = parts_cop ps b es in (
      gauss n d x.num f (subst (λ (k : ℕ). n ∣ k) (sym e) (dvd-mul_right n x.den)),
      gauss d n x.den (cop_sym n d f) (subst (λ (k : ℕ). d ∣ k) (mul_comm d x.num ∙ e ∙ mul_comm n x.den) (dvd-mul_right d x.num)),
    )

-- there is only one way to write it in lowest terms
pub reduced_only : (ps : List ℕ) (t : T (positive ps)) → Primes ps → (es : List ℤ) (n d : ℕ) → Reduced (fraction ps t es) n d → (n ≡ product ps (map up es)) × (d ≡ product ps (map down es))
reduced_only ps t b es n d r =
    let u : ℕ = product ps (map up es) in
    let v : ℕ = product ps (map down es) in
    let m = multiples ps t b es (record { num = n; den = d; num_pos = r.above; den_pos = r.below }) r.equal in
    let k : ℕ = n / u in
    let e : k * u ≡ n = div-mul_cancel u m.0 in
    let f : k * v ≡ d = eq_of_mul-eq-mul_left u (product_pos ps (map up es) t) (k * v) d (sym (mul_assoc u k v) ∙ ap (λ x. x * v) (mul_comm u k ∙ e) ∙ r.equal) in
    let o : k ≡ 1 = r.apart k (subst (λ x. k ∣ x) e (dvd-mul_right k u)) (subst (λ x. k ∣ x) f (dvd-mul_right k v)) in
    (sym e ∙ ap (λ x. x * u) o ∙ one-mul u, sym f ∙ ap (λ x. x * v) o ∙ one-mul v)
