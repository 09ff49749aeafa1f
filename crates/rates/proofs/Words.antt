-- What is printed of a rate, from what its ratio is. Assumes nothing.
use Rattle.std.proofs.Common.{◌≡◌, ℕ, ◌≤◌, Bool, true, false, cond, ◌&&◌, T, leb, List, ◌++◌, ℤ, refl, sym, ◌∙◌, subst, ap₂, leb→le}
use Rattle.std.specs.Prelude.{codes, decimal}
use Rattle.std.proofs.lemmas.Bool.{le-leb}
use Rattle.fractions.specs.Fractions.{Fraction}
use Rattle.fractions.proofs.Laws.{same_refl}
use Rattle.fractions.proofs.Lowest.{reduced_only}
use Rattle.rates.specs.Listed.{listed, largest_number}
use Rattle.rates.specs.Rates.{rate}
use Rattle.rates.specs.Calls.{Fitting, Exceeding}
use Rattle.rates.specs.Printed.{words}
use Rattle.rates.specs.Primal.{all_prime}

pub words_fitting : (es : List ℤ) (n d : ℕ) → Fitting (rate es) n d → decimal n ++ (codes "/" ++ decimal d) ≡ words (rate es)
words_fitting es n d f =
    let x : Fraction = rate es in
    let u = reduced_only listed tt all_prime es n d f.reduced in
    let a = le-leb x.num largest_number (subst (λ (k : ℕ). k ≤ largest_number) u.0 f.top) in
    let b = le-leb x.den largest_number (subst (λ (k : ℕ). k ≤ largest_number) u.1 f.bottom) in
    ap₂ (λ k l. decimal k ++ (codes "/" ++ decimal l)) u.0 u.1
    ∙ sym (ap₂ (λ s t. cond (s && t) (decimal x.num ++ (codes "/" ++ decimal x.den)) (codes "too large")) a b)

not_both : (s t : Bool) (xs ys : List ℕ) → (T s → T t → ⊥) → ys ≡ cond (s && t) xs ys
not_both true true xs ys f = absurd (f tt tt)
not_both true false xs ys f = refl
not_both false t xs ys f = refl

pub words_exceeding : (x : Fraction) → Exceeding x → codes "too large" ≡ words x
words_exceeding x f = not_both (leb x.num largest_number) (leb x.den largest_number) _ _ (λ s t. f x (same_refl x) (leb→le x.num largest_number s) (leb→le x.den largest_number t))
