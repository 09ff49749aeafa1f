use Rattle.std.proofs.Common.{◌≡◌, [], ◌∷◌, length, refl, ap, arith}
use Rattle.steps.specs.declared.phases.Phase.{Phase}
use Rattle.ledger.specs.Tells.{Contents}
use Rattle.ledger.specs.Views.{contents}
use Rattle.ledger.specs.Runs.{pointed, tying}
use Rattle.ledger_cases.proofs.Triangle.{first, second, third, contradicts, no_third_point}
use Rattle.ledger_cases.proofs.three_readings.Goals as goal

pub returns : goal.returns
returns c =
    let r1 = c.point.result in
    let r2 = c.point-2.result in
    let r3 = c.point-3.result in
    let r4 = c.tie.result in
    let r5 = c.tie-2.result in
    let r6 = c.tie-3.result in
    let cells = length (contents c.make-ledger.result).cells in
    let lent : cells ≡ length c.args.cells.now = ap (λ (s : Contents Phase). length s.cells) c.make-ledger.ensures.starts.empty in
    let right =
    c.make-ledger.ensures.law
    (pointed r1 ∷ (pointed r2 ∷ (pointed r3 ∷ (tying first r4 ∷ (tying second r5 ∷ (tying third r6 ∷ []))))))
    (contents c.tie-3.new.self) (
      contents c.point.new.self,
      c.point.ensures,
      (
        contents c.point-2.new.self,
        c.point-2.ensures,
        (
          contents c.point-3.new.self,
          c.point-3.ensures,
          (
            contents c.tie.new.self,
            c.tie.ensures,
            (
              contents c.tie-2.new.self,
              c.tie-2.ensures,
              (contents c.tie-3.new.self, c.tie-3.ensures, refl),
            ),
          ),
        ),
      ),
    ) in
    record {
      roomy = λ room. contradicts cells r4 r5 r6 r1 r2 r3 right (omega arith);
      short = λ small. no_third_point cells r4 r5 r6 r1 r2 r3 right (omega arith);
    }
