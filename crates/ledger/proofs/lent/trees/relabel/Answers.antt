use Rattle.std.proofs.Common.{length, arith}
use Rattle.ledger.proofs.Turns.{turn}
use Rattle.ledger.proofs.lent.trees.relabel.Goals as goal

pub loop-point-preserved : goal.loop-point-preserved
loop-point-preserved g c = record {
  part = λ short.
      let l = c.loop-point.auto.points in
      turn g.S.Step.kind g.S.Step.meaning c.args.points.now c.loop-point.points (length c.args.points.now) c.loop-point.point-index c.point-item.result c.move_from.new.self
      (omega arith) (omega arith) c.point-item.is short (c.loop-point.invariant.part short) c.move_from.ensures;
}
