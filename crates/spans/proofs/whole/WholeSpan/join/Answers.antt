use Rattle.std.proofs.Common.{ap, ◌∙◌}
use Rattle.spans.specs.Bounds.{at_most, is_low, is_high}
use Rattle.spans.proofs.Order.{derived_min, derived_max}
use Rattle.spans.proofs.Sound.{lesser_low, greater_high, join_ordered}
use Rattle.spans.proofs.whole.WholeSpan.join.Goals as goal

pub invariant_of-result : goal.invariant_of-result
invariant_of-result c =
    let a = c.args.self in
    let b = c.args.other in
    let low = c.min.ensures ∙ derived_min a.low b.low in
    let high = c.max.ensures ∙ derived_max a.high b.high in record {
      starts = ap is_low low ∙ lesser_low a.low b.low a.starts b.starts;
      ends = ap is_high high ∙ greater_high a.high b.high a.ends b.ends;
      ordered = (λ i. at_most (low i) (high i)) ∙ join_ordered a.low a.high b.low b.high a.ordered;
    }
