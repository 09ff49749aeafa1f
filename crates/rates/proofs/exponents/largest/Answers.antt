use Rattle.std.proofs.Common.{nat_abs, ap, ◌∙◌, sym, rules}
use Rattle.std.specs.Option.{unwrap_or}
use Rattle.std.proofs.lemmas.Iterator.{YieldsList-from_slice, YieldsList-from_map}
use Rattle.std.proofs.lemmas.Iterator.Adapters.{option_map_id}
use Rattle.std.proofs.lemmas.Iterator.Consumers.{max_from_yields_List, YieldsList-at}
use Rattle.fractions.proofs.Norms.{norm_max}
use Rattle.rates.proofs.exponents.largest.Goals as goal

pub returns : goal.returns
returns c =
    let m = max_from_yields_List {v = λ r. r} _ _ c.max.ensures.ran (YieldsList-from_map _ nat_abs (YieldsList-at c.map-sizes.ensures.source (YieldsList-from_slice c.args.exponents.now cc)) c.map-sizes.ensures.closure (λ x r q k. search rules)) in
    c.unwrap_or.ensures ∙ ap (λ r. unwrap_or r 0) (sym (option_map_id c.max.result) ∙ m) ∙ norm_max c.args.exponents.now
