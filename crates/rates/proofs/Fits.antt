-- Which fractions have numbers that are not too large. Assumes nothing.
use Rattle.std.proofs.Common.{◌≡◌, ℕ, ◌<◌, ◌≤◌, List, map, ℤ, sym, ap, ◌∙◌, subst, arith}
use native.Mathlib.Nat.{le_of_dvd}
use borrow.Author.Differences.{up, down}
use Rattle.fractions.specs.Powers.{product}
use Rattle.fractions.specs.Exponents.{negated}
use Rattle.fractions.specs.Reduced.{Reduced}
use Rattle.fractions.proofs.Exponents.{up_neg}
use Rattle.fractions.proofs.Lowest.{reduced, multiples}
use Rattle.rates.specs.Listed.{listed, largest_number}
use Rattle.rates.specs.Rates.{rate}
use Rattle.rates.specs.Calls.{Fitting, Exceeding}
use Rattle.rates.specs.Primal.{all_prime}

-- the numerator of the inverse is the denominator
upside : (es fs : List ℤ) → fs ≡ negated es → product listed (map up fs) ≡ product listed (map down es)
upside es fs e = ap (λ (zs : List ℤ). product listed (map up zs)) e ∙ ap (product listed) (up_neg es)

pub large_above : (es : List ℤ) → largest_number < product listed (map up es) → Exceeding (rate es)
large_above es h y e n d = let s : product listed (map up es) ≤ y.num = le_of_dvd y.num_pos (multiples listed tt all_prime es y e).0 in omega arith

pub large_below : (es fs : List ℤ) → fs ≡ negated es → largest_number < product listed (map up fs) → Exceeding (rate es)
large_below es fs w h y e n d =
    let s : product listed (map down es) ≤ y.den = le_of_dvd y.den_pos (multiples listed tt all_prime es y e).1 in
    let t : product listed (map up fs) ≡ product listed (map down es) = upside es fs w in
    omega arith

pub fitting : (es fs : List ℤ) (n d : ℕ) → fs ≡ negated es → (n ≤ largest_number) × (n ≡ product listed (map up es)) → (d ≤ largest_number) × (d ≡ product listed (map up fs)) → Fitting (rate es) n d
fitting es fs n d e a b =
    record {
      reduced = subst (λ (k : ℕ). Reduced (rate es) k d) (sym a.1) (subst (λ (k : ℕ). Reduced (rate es) (product listed (map up es)) k) (sym (b.1 ∙ upside es fs e)) (reduced listed tt all_prime es));
      top = a.0;
      bottom = b.0;
    }
