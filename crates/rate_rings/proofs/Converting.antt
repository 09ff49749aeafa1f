-- The step of a conversion. Assumes nothing.
use Rattle.std.proofs.Common.{◌≡◌, ℕ, ◌*◌, ◌<◌, Some, None, Option, IsSome, sym, refl, subst, ap, ◌∙◌, one-mul, mul-one, arith}
use Rattle.steps.specs.Kind.{Composed}
use Rattle.fractions.specs.Fractions.{same, mul, inv, whole}
use Rattle.fractions.specs.Powers.{size}
use Rattle.fractions.proofs.Laws.{same_trans, mul_same, inv_same}
use Rattle.fractions.proofs.Sizes.{size_same, size_inv}
use Rattle.rates.specs.Listed.{listed}
use Rattle.rates.specs.Rates.{rates, worth}
use Rattle.rates.specs.Calls.{Factor}
use Rattle.rates.specs.declared.rate.RateStep.{RateStep}
use Rattle.rates.specs.Primal.{all_prime}
use Rattle.rate_rings.specs.declared.Conversion.{Conversion}
use Rattle.rate_rings.specs.Conversions.{Means}

-- up over 1 times 1 over down
over : (n d : ℕ) (h : 0 < n) (k : 0 < d) → same (mul (whole n h) (inv (whole d k))) (record { num = n; den = d; num_pos = h; den_pos = k })
over n d h k = ap (λ (x : ℕ). x * d) (mul-one n) ∙ ap (λ (x : ℕ). n * x) (sym (one-mul d))

-- two factors compose
pub composes : (n d : ℕ) (u e i : RateStep) (r : Option RateStep) → Factor n u → Factor d e → same (worth i) (inv (worth e)) → Composed rates worth (worth u) (worth i) r → IsSome r
composes n d u e i None f g is c =
    let s : size listed (worth i) ≡ size listed (worth e) = size_same listed all_prime (worth i) (inv (worth e)) is ∙ size_inv listed (worth e) in
    let a = f.ties in
    let b = g.ties in
    absurd (omega arith)
composes n d u e i (Some s) f g is c = refl

pub converted : (c : Conversion) (u d i s : RateStep) (r : Option RateStep) → Factor c.up u → Factor c.down d → same (worth i) (inv (worth d)) → Composed rates worth (worth u) (worth i) r → r ≡ Some s → Means c (worth s)
converted c u d i s r f g e h is =
    let k = subst (λ (o : Option RateStep). Composed rates worth (worth u) (worth i) o) is h in
    record {
      up_is = f.is;
      down_is = g.is;
      means = same_trans (worth s) (mul (worth u) (worth i)) (record { num = c.up; den = c.down; num_pos = f.is.0; den_pos = g.is.0 }) k.1
          (same_trans (mul (worth u) (worth i)) (mul (whole c.up f.is.0) (inv (whole c.down g.is.0))) (record { num = c.up; den = c.down; num_pos = f.is.0; den_pos = g.is.0 })
          (mul_same (worth u) (whole c.up f.is.0) (worth i) (inv (whole c.down g.is.0)) f.means
          (same_trans (worth i) (inv (worth d)) (inv (whole c.down g.is.0)) e (inv_same (worth d) (whole c.down g.is.0) g.means)))
          (over c.up c.down f.is.0 g.is.0));
    }
