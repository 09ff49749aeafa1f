-- The size of a fraction over a list of primes. Assumes nothing.
use Rattle.std.proofs.Common.{◌≡◌, ℕ, ◌+◌, ◌*◌, ◌^◌, ◌<◌, ◌≤◌, max, T, List, [], ◌∷◌, map, length, ℤ, nat_abs, refl, ap, ◌∙◌, ap₂, mul-pos, arith}
use native.Mathlib.Nat.{one-le-pow}
use borrow.Author.Differences.{up, down, ints}
use Rattle.fractions.specs.Fractions.{Fraction, same, mul, inv, one}
use Rattle.fractions.specs.Powers.{product, positive, fraction, multiplicity, distance, size_over, size}
use Rattle.fractions.specs.Exponents.{norm}
use Rattle.fractions.proofs.Coprime.{Coprime, cop_sym, cop_pow, cop_not}
use Rattle.fractions.proofs.Primes.{Apart, Primes}
use Rattle.fractions.proofs.Products.{product_cop, product_above}
use Rattle.fractions.proofs.Multiplicities.{multiplicity_mul, multiplicity_other, multiplicity_pow}

-- equal fractions have equal sizes
pub size_same : (ps : List ℕ) → Primes ps → (x y : Fraction) → same x y → size ps x ≡ size ps y
unfolding size_over
size_same [] q x y e = refl
size_same (p ∷ ps) q x y e =
    let a = multiplicity_mul p x.num y.den q.0 x.num_pos y.den_pos (mul-pos x.num_pos y.den_pos) in
    let b = multiplicity_mul p y.num x.den q.0 y.num_pos x.den_pos (mul-pos y.num_pos x.den_pos) in
    let c : multiplicity p (x.num * y.den) ≡ multiplicity p (y.num * x.den) = ap (multiplicity p) e in
    let s = size_same ps q.2 x y e in
    let d : distance (multiplicity p x.num) (multiplicity p x.den) ≡ distance (multiplicity p y.num) (multiplicity p y.den) = omega arith in
    ap₂ max d s

pub size_inv : (ps : List ℕ) (x : Fraction) → size ps (inv x) ≡ size ps x
unfolding size_over
size_inv [] x = refl
size_inv (p ∷ ps) x =
    let s = size_inv ps x in
    let d : distance (multiplicity p x.den) (multiplicity p x.num) ≡ distance (multiplicity p x.num) (multiplicity p x.den) = omega arith in
    ap₂ max d s

pub size_one : (ps : List ℕ) → size ps one ≡ 0
unfolding size_over
size_one [] = refl
size_one (p ∷ ps) =
    let s = size_one ps in
    let d : distance (multiplicity p 1) (multiplicity p 1) ≡ 0 = omega arith in
    ap₂ max d s

pub size_mul : (ps : List ℕ) → Primes ps → (x y : Fraction) → size ps (mul x y) ≤ size ps x + size ps y
unfolding size_over
size_mul [] q x y = omega arith
size_mul (p ∷ ps) q x y =
    let a = multiplicity_mul p x.num y.num q.0 x.num_pos y.num_pos (mul-pos x.num_pos y.num_pos) in
    let b = multiplicity_mul p x.den y.den q.0 x.den_pos y.den_pos (mul-pos x.den_pos y.den_pos) in
    let s = size_mul ps q.2 x y in
    omega arith

-- factors that are coprime to each of the list change nothing
skip : (p : ℕ) (qs : List ℕ) → Apart p qs → Primes qs → (x y a b : ℕ) → 0 < p → 0 < a → 0 < b → size_over qs (p ^ x * a) (p ^ y * b) ≡ size_over qs a b
unfolding size_over
skip p [] f g x y a b l h k = refl
skip p (q ∷ qs) f g x y a b l h k =
    let u : Coprime q p = cop_sym p q f.0 in
    let c : multiplicity q (p ^ x * a) ≡ multiplicity q a = multiplicity_other q (p ^ x) a g.0.above (cop_pow q p x u) h (mul-pos (one-le-pow x p l) h) in
    let d : multiplicity q (p ^ y * b) ≡ multiplicity q b = multiplicity_other q (p ^ y) b g.0.above (cop_pow q p y u) k (mul-pos (one-le-pow y p l) k) in
    ap₂ max (ap₂ distance c d) (skip p qs f.1 g.2 x y a b l h k)

abs_distance : (e : ℤ) → distance (up e) (down e) ≡ nat_abs e
abs_distance e = omega (arith, ints)

-- the size of a product of powers is its largest exponent
size_product : (ps : List ℕ) → Primes ps → (es : List ℤ) → length es ≡ length ps → size_over ps (product ps (map up es)) (product ps (map down es)) ≡ norm es
unfolding size_over norm
size_product [] b [] h = refl
size_product [] b (e ∷ es) h = absurd (omega arith)
size_product (p ∷ ps) b [] h = absurd (omega arith)
size_product (p ∷ ps) b (e ∷ es) h =
    let l : 1 < p = b.0.above in
    let z : 0 < p = omega arith in
    let n : ℕ = product ps (map up es) in
    let m : ℕ = product ps (map down es) in
    let n_pos : 0 < n = product_above ps (map up es) b.2 in
    let m_pos : 0 < m = product_above ps (map down es) b.2 in
    let u : multiplicity p (p ^ up e * n) ≡ up e = multiplicity_pow p (up e) n l (cop_not p n l (product_cop p ps (map up es) b.1)) (mul-pos (one-le-pow (up e) p z) n_pos) in
    let d : multiplicity p (p ^ down e * m) ≡ down e = multiplicity_pow p (down e) m l (cop_not p m l (product_cop p ps (map down es) b.1)) (mul-pos (one-le-pow (down e) p z) m_pos) in
    ap₂ max (ap₂ distance u d ∙ abs_distance e) (skip p ps b.1 b.2 (up e) (down e) n m z n_pos m_pos ∙ size_product ps b.2 es (omega arith))

-- the size of a fraction that is given by exponents
pub size_fraction : (ps : List ℕ) (t : T (positive ps)) → Primes ps → (es : List ℤ) → length es ≡ length ps → size ps (fraction ps t es) ≡ norm es
size_fraction ps t b es h = size_product ps b es h
