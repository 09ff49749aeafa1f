use Rattle.std.proofs.Common.{arith}
use Rattle.ledger.proofs.Answering.{pointed_ok}
use Rattle.ledger.proofs.lent.Ledger.point.Goals as goal

pub returns-then-n-lt-MOST_POINTS : goal.returns-then-n-lt-MOST_POINTS
returns-then-n-lt-MOST_POINTS g c =
    pointed_ok g.S.Step.kind g.S.Step.meaning c.args.self.now.cells.now c.args.self.now.len g.met.S.Step.lawful c.unit.result (omega arith) (omega arith) c.unit.ensures
