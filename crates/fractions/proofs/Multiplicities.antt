-- How often a prime divides a number. Assumes nothing.
use Rattle.std.proofs.Common.{◌≡◌, ℕ, zero, suc, ◌+◌, ◌*◌, ◌/◌, ◌%◌, ◌^◌, ◌<◌, ◌≤◌, Bool, cond, sym, refl, ap, ◌∙◌, subst, ap₂, ⊎_elim, mul_assoc, mul_comm, one-mul, mul_left_comm, arith, pow-add, eq-eqb, ne_eqb}
use Prim.Native.Nat.{◌∣◌}
use native.Mathlib.Nat.{mul-mul-mul_comm, pow-zero, pow-succ', dvd_of_mod-eq-zero, mod-eq-zero_of_dvd, mul-div_cancel', div-lt_self}
use Rattle.std.proofs.lemmas.Bool.{cases_eq}
use Rattle.fractions.specs.Powers.{divisions, multiplicity}
use Rattle.fractions.proofs.Coprime.{Coprime, gauss}
use Rattle.fractions.proofs.Primes.{Prime}
use Rattle.fractions.proofs.Products.{left_pos, lower}

-- n is p to the e times a number that p does not divide
pub record Exact (p e n : ℕ) : Type 0 where
  pub rest : ℕ
  pub whole : n ≡ p ^ e * rest
  pub free : ¬ (p ∣ rest)

divisions_exact : (turns p n : ℕ) → 1 < p → 0 < n → n ≤ turns → Exact p (divisions turns p n) n
divisions_exact zero p n l h k = absurd (omega arith)
divisions_exact (suc turns) p n l h k =
    ⊎_elim
    (λ (e : n % p ≡ 0).
    let w : p * (n / p) ≡ n = mul-div_cancel' p (dvd_of_mod-eq-zero p e) in
    let s : n / p < n = div-lt_self h l in
    let r : Exact p (divisions turns p (n / p)) (n / p) = divisions_exact turns p (n / p) l (left_pos (n / p) p n h (sym w ∙ mul_comm p (n / p))) (omega arith) in
    let f : n ≡ p ^ suc (divisions turns p (n / p)) * r.rest =
    sym w ∙ ap (λ (x : ℕ). p * x) r.whole ∙ sym (mul_assoc p (p ^ divisions turns p (n / p)) r.rest) ∙ ap (λ (x : ℕ). x * r.rest) (sym (pow-succ' p (divisions turns p (n / p)))) in
    subst (λ (b : Bool). Exact p (cond b (suc (divisions turns p (n / p))) 0) n) (sym (eq-eqb (n % p) 0 e)) (record { rest = r.rest; whole = f; free = r.free }))
    (λ (d : n % p ≡ 0 → ⊥).
    subst (λ (b : Bool). Exact p (cond b (suc (divisions turns p (n / p))) 0) n) (sym (ne_eqb (n % p) 0 d))
    (record { rest = n; whole = sym (ap (λ (x : ℕ). x * n) (pow-zero p) ∙ one-mul n); free = λ v. d (mod-eq-zero_of_dvd p v) }))
    (cases_eq (n % p) 0)

multiplicity_exact : (p n : ℕ) → 1 < p → 0 < n → Exact p (multiplicity p n) n
unfolding multiplicity
multiplicity_exact p n l h = divisions_exact n p n l h (omega arith)

exact_unique : (p e f n : ℕ) → 1 < p → Exact p e n → Exact p f n → e ≡ f
exact_unique p e f n l x y =
    let w : p ^ e * x.rest ≡ p ^ f * y.rest = sym x.whole ∙ y.whole in
    let a : ¬ (e < f) = lower p e f x.rest y.rest l x.free w in
    let b : ¬ (f < e) = lower p f e y.rest x.rest l y.free (sym w) in
    omega arith

multiplicity_is : (p e n : ℕ) → 1 < p → 0 < n → Exact p e n → multiplicity p n ≡ e
multiplicity_is p e n l h x = exact_unique p (multiplicity p n) e n l (multiplicity_exact p n l h) x

exact_mul : (p e f a b : ℕ) → Prime p → Exact p e a → Exact p f b → Exact p (e + f) (a * b)
exact_mul p e f a b q x y =
    record {
      rest = x.rest * y.rest;
      whole = ap₂ ◌*◌ x.whole y.whole ∙ mul-mul-mul_comm (p ^ e) x.rest (p ^ f) y.rest ∙ ap (λ (n : ℕ). n * (x.rest * y.rest)) (sym (pow-add p e f));
      free = λ d. x.free (gauss p y.rest x.rest (q.euclid y.rest y.free) d);
    }

-- Euclid's lemma, in valuations
pub multiplicity_mul : (p a b : ℕ) → Prime p → 0 < a → 0 < b → 0 < a * b → multiplicity p (a * b) ≡ multiplicity p a + multiplicity p b
multiplicity_mul p a b q h k m = multiplicity_is p (multiplicity p a + multiplicity p b) (a * b) q.above m (exact_mul p (multiplicity p a) (multiplicity p b) a b q (multiplicity_exact p a q.above h) (multiplicity_exact p b q.above k))

-- a factor that is coprime to p changes nothing
exact_times : (p e c a : ℕ) → Coprime p c → Exact p e a → Exact p e (c * a)
exact_times p e c a f x =
    record {
      rest = c * x.rest;
      whole = ap (λ (n : ℕ). c * n) x.whole ∙ mul_left_comm c (p ^ e) x.rest;
      free = λ d. x.free (gauss p c x.rest f (subst (λ (n : ℕ). p ∣ n) (mul_comm c x.rest) d));
    }

pub multiplicity_other : (p c a : ℕ) → 1 < p → Coprime p c → 0 < a → 0 < c * a → multiplicity p (c * a) ≡ multiplicity p a
multiplicity_other p c a l f h k = multiplicity_is p (multiplicity p a) (c * a) l k (exact_times p (multiplicity p a) c a f (multiplicity_exact p a l h))

-- how often p divides p to the x times what it does not divide
pub multiplicity_pow : (p x r : ℕ) → 1 < p → ¬ (p ∣ r) → 0 < p ^ x * r → multiplicity p (p ^ x * r) ≡ x
multiplicity_pow p x r l f h = multiplicity_is p x (p ^ x * r) l h (record { rest = r; whole = refl; free = f })
