-- The lesser exponents of two fractions make their measure. Assumes nothing.
use Rattle.std.proofs.Common.{◌≡◌, ℕ, zero, suc, ◌+◌, ◌-◌, ◌*◌, ◌^◌, ◌<◌, ◌≤◌, min, T, ◌⊎◌, List, [], ◌∷◌, map, length, ℤ, pos, negsuc, ◌-ℤ◌, ◌≤ℤ◌, sym, refl, ap, ◌∙◌, subst, ap₂, inl, inr, ⊎_elim, mul_assoc, mul_comm, mul-one, mul_right_comm, mul_left_comm, arith, pow-add}
use Prim.Native.Nat.{◌∣◌}
use native.Mathlib.Nat.{dvd-mul_right, dvd-mul_right_of_dvd, eq_of_mul-eq-mul_left, pow-zero}
use native.Mathlib.Decide.{dec_le}
use borrow.Author.Differences.{up, down, ints}
use Rattle.std.specs.Int.{int_min}
use Rattle.std.specs.List.{AllZip}
use Rattle.std.proofs.lemmas.Int.{clamps}
use Rattle.fractions.specs.Fractions.{Fraction, mul, inv, Natural}
use Rattle.fractions.specs.Least.{Measures, Measure}
use Rattle.fractions.specs.Powers.{product, positive, product_pos, fraction}
use Rattle.fractions.specs.Exponents.{zip_with, minima}
use Rattle.fractions.proofs.Coprime.{Coprime, cop_sym, cop_pow}
use Rattle.fractions.proofs.Primes.{Primes}
use Rattle.fractions.proofs.Products.{product_add, product_cop}
use Rattle.fractions.proofs.Exponents.{length-zip, length-ups, length-downs}
use Rattle.fractions.proofs.Naturals.{natural_of, natural_out, natural_divides, all_two, all_first, all_second}

ruleset ac = (mul_assoc, mul_comm, mul_left_comm)

-- d divides c a and c p^k b, and p is coprime to a, so d divides c b
drop_power : (p k d c a b : ℕ) → Coprime p a → d ∣ c * a → d ∣ c * (p ^ k * b) → d ∣ c * b
drop_power p k d c a b f h g =
    let f' : Coprime a (p ^ k) = cop_pow a p k (cop_sym p a f) in
    let h' : d ∣ (c * b) * a = rw (mul_right_comm c b a) (dvd-mul_right_of_dvd d h b) in
    let g' : d ∣ (c * b) * p ^ k = subst (λ (x : ℕ). d ∣ x) (simp ac) g in
    f' d (c * b) h' g'

-- the step at one base, if its first exponent is the lower
low : (p x y d c a b : ℕ) → Coprime p a → x ≤ y → d ∣ c * (p ^ x * a) → d ∣ c * (p ^ y * b) → (d ∣ (c * p ^ x) * a) × (d ∣ (c * p ^ x) * b)
low p x y d c a b f l h g =
    let k : ℕ = y - x in
    let s : y ≡ x + k = omega arith in
    let h' : d ∣ (c * p ^ x) * a = rw mul_assoc h in
    let e : c * (p ^ y * b) ≡ (c * p ^ x) * (p ^ k * b) = ap (λ (n : ℕ). c * (p ^ n * b)) s ∙ ap (λ (n : ℕ). c * (n * b)) (pow-add p x k) ∙ (simp ac) in
    (h', drop_power p k d (c * p ^ x) a b f h' (subst (λ (n : ℕ). d ∣ n) e g))

either : (m n : ℕ) → (m ≤ n) ⊎ (n ≤ m)
either m n = by (dec_le m n)
  where
    by : Dec (m ≤ n) → (m ≤ n) ⊎ (n ≤ m)
    by (yes l) = inl l
    by (no l) = inr (omega arith)

-- the step at one base: r is the product of the lesser exponents of the others
step : (p x y a b r d c : ℕ) → Coprime p a → Coprime p b → d ∣ c * (p ^ x * a) → d ∣ c * (p ^ y * b) → ((c' : ℕ) → d ∣ c' * a → d ∣ c' * b → d ∣ c' * r) → d ∣ c * (p ^ min x y * r)
step p x y a b r d c fa fb f g rest = ⊎_elim left right (either x y)
  where
    goal : (n : ℕ) → min x y ≡ n → d ∣ (c * p ^ n) * r → d ∣ c * (p ^ min x y * r)
    goal n e t = rw e (rw mul_assoc at t)

    left : x ≤ y → d ∣ c * (p ^ min x y * r)
    left l =
        let t = low p x y d c a b fa l f g in
        goal x (omega arith) (rest (c * p ^ x) t.0 t.1)

    right : y ≤ x → d ∣ c * (p ^ min x y * r)
    right l =
        let t = low p y x d c b a fb l g f in
        goal y (omega arith) (rest (c * p ^ y) t.1 t.0)

-- what divides c times two products divides c times the product of the lesser exponents
product_min : (ps : List ℕ) → Primes ps → (xs ys : List ℕ) → length xs ≡ length ps → length ys ≡ length ps → (d c : ℕ) → d ∣ c * product ps xs → d ∣ c * product ps ys → d ∣ c * product ps (zip_with min xs ys)
product_min [] b xs ys h k d c f g = f
product_min (p ∷ ps) b [] ys h k d c f g = absurd (omega arith)
product_min (p ∷ ps) b (x ∷ xs) [] h k d c f g = absurd (omega arith)
product_min (p ∷ ps) b (x ∷ xs) (y ∷ ys) h k d c f g =
    step p x y (product ps xs) (product ps ys) (product ps (zip_with min xs ys)) d c (product_cop p ps xs b.1) (product_cop p ps ys b.1) f g (λ c'. product_min ps b.2 xs ys (omega arith) (omega arith) d c')

-- e - m, where it is not negative
abbrev gap : ℤ → ℤ → ℕ
gap e m = up (e -ℤ m)

abbrev gaps : List ℤ → List ℤ → List ℕ
gaps = zip_with gap

sided : (z : ℤ) → (up z ≡ 0) ⊎ (down z ≡ 0)
sided (pos n) = inr refl
sided (negsuc n) = inl refl

gap_is : (e m : ℤ) → gap e m ≡ (up e + down m) - (up m + down e)
gap_is e m = omega (arith, ints, sided (e -ℤ m))

least_gap : (e f m : ℤ) → min (gap e m) (gap f m) ≡ gap (int_min e f) m
least_gap e f m = omega (arith, ints, clamps, gap_is e m, gap_is f m, gap_is (int_min e f) m)

self_gap : (m : ℤ) → gap m m ≡ 0
self_gap m = omega (arith, gap_is m m)

-- m is at most e, at each place
abbrev Below : List ℤ → List ℤ → Type 0
Below = AllZip ◌≤ℤ◌

heights : (es ms : List ℤ) → Below ms es → zip_with ◌+◌ (map up es) (map down ms) ≡ zip_with ◌+◌ (zip_with ◌+◌ (map up ms) (gaps es ms)) (map down es)
heights [] [] h = refl
heights [] (m ∷ ms) h = absurd h
heights (e ∷ es) [] h = absurd h
heights (e ∷ es) (m ∷ ms) h =
    let l : m ≤ℤ e = h.0 in
    let a : up e + down m ≡ (up m + gap e m) + down e = omega (arith, ints, gap_is e m) in
    ap₂ ◌∷◌ a (heights es ms h.1)

least_gaps : (es fs ms : List ℤ) → zip_with min (gaps es ms) (gaps fs ms) ≡ gaps (minima es fs) ms
least_gaps [] fs ms = refl
least_gaps (e ∷ es) [] [] = refl
least_gaps (e ∷ es) [] (m ∷ ms) = refl
least_gaps (e ∷ es) (f ∷ fs) [] = refl
least_gaps (e ∷ es) (f ∷ fs) (m ∷ ms) = ap₂ ◌∷◌ (least_gap e f m) (least_gaps es fs ms)

self_gaps : (ps : List ℕ) (ms : List ℤ) → product ps (gaps ms ms) ≡ 1
self_gaps [] ms = refl
self_gaps (p ∷ ps) [] = refl
self_gaps (p ∷ ps) (m ∷ ms) = ap₂ ◌*◌ (ap (λ (n : ℕ). p ^ n) (self_gap m) ∙ pow-zero p) (self_gaps ps ms)

below_left : (n : ℕ) (es fs : List ℤ) → length es ≡ n → length fs ≡ n → Below (minima es fs) es
below_left n [] fs h k = tt
below_left n (e ∷ es) [] h k = absurd (omega arith)
below_left zero (e ∷ es) (f ∷ fs) h k = absurd (omega arith)
below_left (suc n) (e ∷ es) (f ∷ fs) h k = (omega (arith, ints, clamps), below_left n es fs (omega arith) (omega arith))

below_right : (n : ℕ) (es fs : List ℤ) → length es ≡ n → length fs ≡ n → Below (minima es fs) fs
below_right n [] [] h k = tt
below_right n [] (f ∷ fs) h k = absurd (omega arith)
below_right n (e ∷ es) [] h k = tt
below_right zero (e ∷ es) (f ∷ fs) h k = absurd (omega arith)
below_right (suc n) (e ∷ es) (f ∷ fs) h k = (omega (arith, ints, clamps), below_right n es fs (omega arith) (omega arith))

-- a fraction is the least one times a whole number
rise : (ps : List ℕ) (es ms : List ℤ) → length es ≡ length ps → length ms ≡ length ps → Below ms es → product ps (map up es) * product ps (map down ms) ≡ (product ps (map up ms) * product ps (gaps es ms)) * product ps (map down es)
rise ps es ms h k b =
    let n : ℕ = length ps in
    let due = length-ups es n h in
    let dum = length-ups ms n k in
    let dde = length-downs es n h in
    let ddm = length-downs ms n k in
    let dg = length-zip gap es ms n h k in
    sym (product_add ps (map up es) (map down ms) due ddm)
    ∙ ap (product ps) (heights es ms b)
    ∙ product_add ps (zip_with ◌+◌ (map up ms) (gaps es ms)) (map down es) (length-zip ◌+◌ (map up ms) (gaps es ms) n dum dg) dde
    ∙ ap (λ (x : ℕ). x * product ps (map down es)) (product_add ps (map up ms) (gaps es ms) dum dg)

-- a, b: a fraction. If a oe / (b ue) is n and oe / ue is om g / um then b um divides a om g
divides : (a b oe ue om um g n : ℕ) → 0 < ue → oe * um ≡ (om * g) * ue → a * oe ≡ n * (b * ue) → (b * um) ∣ (a * om) * g
divides a b oe ue om um g n p e f =
    let l : ue * ((a * om) * g) ≡ (a * oe) * um = (simp ac) ∙ ap (λ (x : ℕ). a * x) (sym e) ∙ (simp ac) in
    let r : (a * oe) * um ≡ ue * ((b * um) * n) = ap (λ (x : ℕ). x * um) f ∙ (simp ac) in
    let s : (a * om) * g ≡ (b * um) * n = eq_of_mul-eq-mul_left ue p ((a * om) * g) ((b * um) * n) (l ∙ r) in
    subst (λ (x : ℕ). (b * um) ∣ x) (sym s) (dvd-mul_right (b * um) n)

regroup : (o g u : ℕ) → (o * g) * u ≡ g * (o * u)
regroup o g u = simp ac

module _ (ps : List ℕ) (t : T (positive ps)) (b : Primes ps) (m : List ℤ) (k : length m ≡ length ps) where
  -- a fraction with no lesser exponent is a natural multiple
  multiple : (e : List ℤ) → length e ≡ length ps → Below m e → Natural (mul (inv (fraction ps t m)) (fraction ps t e))
  multiple e h l =
      natural_of (mul (inv (fraction ps t m)) (fraction ps t e)) (product ps (gaps e m))
      (mul_comm (product ps (map down m)) (product ps (map up e)) ∙ rise ps e m h k l ∙ regroup (product ps (map up m)) (product ps (gaps e m)) (product ps (map down e)))

  -- what makes it natural divides so
  divided : (x : Fraction) (e : List ℤ) → length e ≡ length ps → Below m e → Natural (mul x (fraction ps t e)) → (x.den * product ps (map down m)) ∣ (x.num * product ps (map up m)) * product ps (gaps e m)
  divided x e h l n =
      divides x.num x.den (product ps (map up e)) (product ps (map down e)) (product ps (map up m)) (product ps (map down m)) (product ps (gaps e m)) n.0 (product_pos ps (map down e) t) (rise ps e m h k l) (natural_out (mul x (fraction ps t e)) n)

module _ (ps : List ℕ) (t : T (positive ps)) (b : Primes ps) (es fs : List ℤ) (h : length es ≡ length ps) (k : length fs ≡ length ps) where
  pub measure : Measure (fraction ps t es ∷ fraction ps t fs ∷ []) (fraction ps t (minima es fs))
  measure =
      let n : ℕ = length ps in
      let m : List ℤ = minima es fs in
      let hm : length m ≡ n = length-zip int_min es fs n h k in
      let left : Below m es = below_left n es fs h k in
      let right : Below m fs = below_right n es fs h k in
      let first : Fraction = fraction ps t es in
      let second : Fraction = fraction ps t fs in
      record {
        common = all_two (Measures (fraction ps t m)) first second (multiple ps t b m hm es h left) (multiple ps t b m hm fs k right);
        greatest = λ y a.
            let x : Fraction = inv y in
            let d : ℕ = x.den * product ps (map down m) in
            let c : ℕ = x.num * product ps (map up m) in
            let both : d ∣ c * product ps (zip_with min (gaps es m) (gaps fs m)) = product_min ps b (gaps es m) (gaps fs m) (length-zip gap es m n h hm) (length-zip gap fs m n k hm) d c (divided ps t b m hm x es h left (all_first (Measures y) first second a)) (divided ps t b m hm x fs k right (all_second (Measures y) first second a)) in
            let none : product ps (zip_with min (gaps es m) (gaps fs m)) ≡ 1 = ap (product ps) (least_gaps es fs m) ∙ self_gaps ps m in
            natural_divides (mul x (fraction ps t m)) (subst (λ (y : ℕ). d ∣ y) (ap (λ (y : ℕ). c * y) none ∙ mul-one c) both);
      }
