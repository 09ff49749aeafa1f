use Rattle.ledger.proofs.Ways.{composed_same}
use Rattle.ledger.proofs.cells.Cell.way_from.Goals as goal

pub returns : goal.returns
returns g c =
    let L = g.met.S.Step.lawful in
    composed_same g.S.Step.kind L g.S.Step.meaning _ _ _ _ (L.rfl _) c.inverse.ensures c.compose.result c.compose.ensures
