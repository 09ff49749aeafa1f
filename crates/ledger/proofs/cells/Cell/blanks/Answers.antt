use Rattle.std.proofs.Common.{◌≡◌, ◌-◌, vec_len, ap, ◌∙◌, arith}
use Rattle.std.proofs.lemmas.Result.{IfOk-weaker}
use Rattle.std.proofs.iter.runs.Sources.{range_runs}
use Rattle.ledger.proofs.cells.Cell.blanks.Goals as goal

-- as many cells as the range has numbers
pub returns-clause-many : goal.returns-clause-many
returns-clause-many g c =
    IfOk-weaker c.collect.result _ (λ cells. vec_len cells ≡ c.args.count)
    (λ cells whole.
    let made = whole tt in
    let counted = c.map.ensures.runs made.0 made.0.seen made.1 in
    let long = made.0.long in
    let same = counted.2.1 in
    let all = (range_runs counted.0 counted.0.seen).1 (counted.2.0 ∙ made.2) in
    let from = ap (λ (r : _). r.end - r.start) counted.1 in
    omega arith)
    c.collect.ensures.runs
