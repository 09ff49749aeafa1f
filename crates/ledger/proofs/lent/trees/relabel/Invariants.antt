use Rattle.std.proofs.Common.{length}
use Rattle.ledger.specs.Trees.{roots, steps}
use Rattle.ledger.proofs.Moves.{Partly}
use Rattle.ledger.proofs.lent.trees.relabel.Given as goal

abbrev pub invariant-loop-point : goal.invariant-loop-point
invariant-loop-point g l =
    let K = g.S.Step.kind in
    let mean = g.S.Step.meaning in
    Partly K (length l.initial.points) l.point-index (roots l.initial.points) (steps K mean l.initial.points) (roots l.points) (steps K mean l.points) l.from l.to (mean l.by)
