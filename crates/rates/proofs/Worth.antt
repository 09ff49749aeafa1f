-- The fractions of lists of exponents: what adding, turning and comparing the exponents does to them. Assumes nothing.
use Rattle.std.proofs.Common.{◌≡◌, List, [], ◌∷◌, length, ℤ, sym, subst}
use Rattle.fractions.specs.Fractions.{same, mul, inv}
use Rattle.fractions.specs.Powers.{size}
use Rattle.fractions.specs.Exponents.{added, negated, minima, norm}
use Rattle.fractions.specs.Least.{Measure}
use Rattle.fractions.proofs.Laws.{same_refl}
use Rattle.fractions.proofs.Exponents.{fraction_add, fraction_neg, fraction_inj}
use Rattle.fractions.proofs.Sizes.{size_fraction}
use Rattle.fractions.proofs.Measures.{measure}
use Rattle.rates.specs.Listed.{listed}
use Rattle.rates.specs.Rates.{rate}
use Rattle.rates.specs.Primal.{all_prime}

pub size_rate : (es : List ℤ) → length es ≡ length listed → size listed (rate es) ≡ norm es
size_rate = size_fraction listed tt all_prime

pub rate_add : (es fs gs : List ℤ) → length es ≡ length listed → length fs ≡ length listed → gs ≡ added es fs → same (rate gs) (mul (rate es) (rate fs))
rate_add es fs gs h k e = subst (λ (zs : List ℤ). same (rate zs) (mul (rate es) (rate fs))) (sym e) (fraction_add listed tt es fs h k)

pub rate_neg : (es fs : List ℤ) → fs ≡ negated es → same (rate fs) (inv (rate es))
rate_neg es fs e = subst (λ (zs : List ℤ). same (rate zs) (inv (rate es))) (sym e) (fraction_neg listed tt es)

-- equal fractions have equal exponents
pub rate_inj : (es fs : List ℤ) → length es ≡ length listed → length fs ≡ length listed → same (rate es) (rate fs) → es ≡ fs
rate_inj = fraction_inj listed tt all_prime

pub rate_same : (es fs : List ℤ) → es ≡ fs → same (rate es) (rate fs)
rate_same es fs e = subst (λ (zs : List ℤ). same (rate es) (rate zs)) e (same_refl (rate es))

pub rate_measure : (es fs gs : List ℤ) → length es ≡ length listed → length fs ≡ length listed → gs ≡ minima es fs → Measure (rate es ∷ rate fs ∷ []) (rate gs)
rate_measure es fs gs h k e = subst (λ (zs : List ℤ). Measure (rate es ∷ rate fs ∷ []) (rate zs)) (sym e) (measure listed tt all_prime es fs h k)
