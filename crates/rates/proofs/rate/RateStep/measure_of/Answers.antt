use Rattle.std.proofs.Common.{◌∷◌, map, subst, rules}
use Rattle.std.proofs.lemmas.Fn.{fold_over, slice_gives, fronts}
use Rattle.std.proofs.lemmas.List.{map_push}
use Rattle.fractions.specs.Least.{Measure}
use Rattle.fractions.proofs.Naturals.{measure_one, measure_more}
use Rattle.rates.specs.Rates.{worth}
use Rattle.rates.proofs.rate.RateStep.measure_of.Goals as goal

-- what is folded is the measure of the first rate and of those passed so far
pub returns : goal.returns
returns c =
    subst (λ ss. Measure (worth c.args.first.now ∷ map worth ss) (worth c.fold.result)) c.iter.ensures.rest
    (fold_over fronts (λ y. y.now) _ (λ ss s. Measure (worth c.args.first.now ∷ map worth ss) (worth s)) _
    (λ ss s y t f m k. (rw (map_push worth ss y.now) (measure_more (worth c.args.first.now ∷ map worth ss) (worth y.now) (worth s) (worth t) m (search rules)), search rules))
    _ _ c.args.first.now c.fold.result (slice_gives c.iter.result) (measure_one (worth c.args.first.now)) c.fold.ensures.ran)
