use Rattle.std.proofs.Common.{◌≡◌, ℕ, [], ◌∷◌, length, refl, ap, subst}
use Rattle.ledger.specs.Tells.{Contents}
use Rattle.ledger.specs.Views.{contents}
use Rattle.ledger.specs.Runs.{pointed, tying}
use Rattle.rates.specs.Rates.{worth}
use Rattle.rates.specs.declared.rate.RateStep.{RateStep}
use Rattle.ledger_cases.specs.Rings.{LastOfThree}
use Rattle.ledger_cases.proofs.Ring.{first, second, third, last_of_three}
use Rattle.ledger_cases.proofs.three_conversions.Goals as goal

pub returns : goal.returns
returns c =
    let f = worth c.args.f.now in
    let g = worth c.args.g.now in
    let h = worth c.args.h.now in
    let r1 = c.point.result in
    let r2 = c.point-2.result in
    let r3 = c.point-3.result in
    let r4 = c.tie.result in
    let r5 = c.tie-2.result in
    let r6 = c.tie-3.result in
    let cells = length (contents c.make-ledger.result).cells in
    let lent : cells ≡ length c.args.cells.now = ap (λ (s : Contents RateStep). length s.cells) c.make-ledger.ensures.starts.empty in
    let right =
    c.make-ledger.ensures.law
    (pointed r1 ∷ (pointed r2 ∷ (pointed r3 ∷ (tying (first f g h) r4 ∷ (tying (second f g h) r5 ∷ (tying (third f g h) r6 ∷ []))))))
    (contents c.tie-3.new.self) (
      contents c.point.new.self,
      c.point.ensures,
      (
        contents c.point-2.new.self,
        c.point-2.ensures,
        (
          contents c.point-3.new.self,
          c.point-3.ensures,
          (
            contents c.tie.new.self,
            c.tie.ensures,
            (
              contents c.tie-2.new.self,
              c.tie-2.ensures,
              (contents c.tie-3.new.self, c.tie-3.ensures, refl),
            ),
          ),
        ),
      ),
    ) in
    subst (λ (n : ℕ). LastOfThree n f g h r6) lent (last_of_three f g h cells r4 r5 r6 r1 r2 r3 right)
