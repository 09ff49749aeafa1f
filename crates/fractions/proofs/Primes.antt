-- Primes: a computed test of a list, and what it says. Assumes nothing.
use Rattle.std.proofs.Common.{◌≡◌, ℕ, zero, suc, ◌+◌, ◌-◌, ◌*◌, ◌/◌, ◌%◌, ◌^◌, ◌<◌, ◌≤◌, Bool, true, not, ◌&&◌, T, eqb, ltb, List, [], ◌∷◌, sym, ap, ◌∙◌, subst, ⊎_elim, mod-lt, mul_assoc, mul-add, arith, eqb→eq, ltb→lt, eq-eqb}
use Prim.Native.Nat.{◌∣◌}
use native.Mathlib.Nat.{dvd-mul_right_of_dvd, dvd-add_iff_right, dvd_of_mod-eq-zero, mod-eq-zero_of_dvd, div-add-mod}
use Rattle.std.proofs.lemmas.Bool.{cases_eq}
use Rattle.fractions.specs.Powers.{left_of, right_of}
use Rattle.fractions.proofs.Coprime.{Coprime, cop_inv}

-- q has an inverse modulo p: its power p - 2, where p is prime
abbrev unit : ℕ → ℕ → Bool
unit p q = eqb ((q * q ^ (p - 2)) % p) 1

-- 1 to k have inverses modulo p
abbrev units : ℕ → ℕ → Bool
units p zero = true
units p (suc k) = unit p (suc k) && units p k

-- p is prime: it is above 1, and each number from 1 to p - 1 has an inverse modulo p
abbrev prime : ℕ → Bool
prime p = ltb 1 p && units p (p - 1)

-- p divides none of the numbers
abbrev divides_none : ℕ → List ℕ → Bool
divides_none p [] = true
divides_none p (q ∷ qs) = not (eqb (q % p) 0) && divides_none p qs

-- each is prime, and divides none of those behind it
abbrev pub primes : List ℕ → Bool
primes [] = true
primes (p ∷ ps) = prime p && (divides_none p ps && primes ps)

-- p is prime, as Euclid has it: what it does not divide is coprime to it
pub record Prime (p : ℕ) : Type 0 where
  pub above : 1 < p
  pub euclid : (m : ℕ) → ¬ (p ∣ m) → Coprime p m

abbrev pub Apart : ℕ → List ℕ → Type 0
Apart p [] = Unit {0}
Apart p (q ∷ qs) = Coprime p q × Apart p qs

-- each is prime, and coprime to those behind it
abbrev pub Primes : List ℕ → Type 0
Primes [] = Unit {0}
Primes (p ∷ ps) = Prime p × Apart p ps × Primes ps

cop_unit : (p q : ℕ) → T (unit p q) → Coprime p q
cop_unit p q t =
    let u : ℕ = q ^ (p - 2) in
    let e : (q * u) % p ≡ 1 = eqb→eq ((q * q ^ (p - 2)) % p) 1 t in
    cop_inv p q u ((q * u) / p) (ap (λ (x : ℕ). p * ((q * u) / p) + x) (sym e) ∙ div-add-mod (q * u) p)

units_at : (p k : ℕ) → T (units p k) → (q : ℕ) → 0 < q → q ≤ k → Coprime p q
units_at p zero t q h l = absurd (omega arith)
units_at p (suc k) t q h l =
    ⊎_elim
    (λ (e : q ≡ suc k). subst (Coprime p) (sym e) (cop_unit p (suc k) (left_of (unit p (suc k)) (units p k) t)))
    (λ (d : q ≡ suc k → ⊥). units_at p k (right_of (unit p (suc k)) (units p k) t) q h (omega arith))
    (cases_eq q (suc k))

-- what is coprime to the remainder is coprime to the number
cop_mod : (p m : ℕ) → Coprime p (m % p) → Coprime p m
cop_mod p m f d c h k =
    let e : c * m ≡ c * p * (m / p) + c * (m % p) = ap (λ (x : ℕ). c * x) (sym (div-add-mod m p)) ∙ mul-add c (p * (m / p)) (m % p) ∙ ap (λ (x : ℕ). x + c * (m % p)) (sym (mul_assoc c p (m / p))) in
    f d c h ((dvd-add_iff_right d {m = c * p * (m / p)} (dvd-mul_right_of_dvd d h (m / p))).1 (subst (λ (x : ℕ). d ∣ x) e k))

prime_is : (p : ℕ) → T (prime p) → Prime p
prime_is p t =
    let l : 1 < p = ltb→lt 1 p (left_of (ltb 1 p) (units p (p - 1)) t) in
    record {
      above = l;
      euclid = λ m n.
          let s : m % p < p = mod-lt m (omega arith) in
          let z : ¬ (m % p ≡ 0) = λ e. n (dvd_of_mod-eq-zero p e) in
          cop_mod p m (units_at p (p - 1) (right_of (ltb 1 p) (units p (p - 1)) t) (m % p) (omega arith) (omega arith));
    }

not_divided : (p q : ℕ) → T (not (eqb (q % p) 0)) → ¬ (p ∣ q)
not_divided p q t h = subst (λ (b : Bool). T (not b)) (eq-eqb (q % p) 0 (mod-eq-zero_of_dvd p h)) t

apart_is : (p : ℕ) → Prime p → (qs : List ℕ) → T (divides_none p qs) → Apart p qs
apart_is p r [] t = tt
apart_is p r (q ∷ qs) t = (r.euclid q (not_divided p q (left_of (not (eqb (q % p) 0)) (divides_none p qs) t)), apart_is p r qs (right_of (not (eqb (q % p) 0)) (divides_none p qs) t))

-- the test says that they are primes
pub primes_are : (ps : List ℕ) → T (primes ps) → Primes ps
primes_are [] t = tt
primes_are (p ∷ ps) t =
    let r : Prime p = prime_is p (left_of (prime p) (divides_none p ps && primes ps) t) in
    let s : T (divides_none p ps && primes ps) = right_of (prime p) (divides_none p ps && primes ps) t in
    (r, apart_is p r ps (left_of (divides_none p ps) (primes ps) s), primes_are ps (right_of (divides_none p ps) (primes ps) s))
