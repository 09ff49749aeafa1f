-- The view of a ledger as what it holds. Assumes nothing.
use Rattle.steps.specs.declared.kind.Step.{Ghosts}
use Rattle.ledger.specs.declared.lent.Ledger.{Ledger}
use Rattle.ledger.specs.Tells.{Contents, holding}

abbrev pub contents : {S : Type 0} {step : Ghosts S} → Ledger S step → Contents S
contents l = holding l.cells.now l.len
