use Rattle.std.proofs.Common.{refl}
use Rattle.ledger.proofs.Telling.{tells_none}
use Rattle.ledger.proofs.Laws.{every_run}
use Rattle.ledger.proofs.lent.Ledger.make.Goals as goal

pub returns-clause-law : goal.returns-clause-law
returns-clause-law g c = every_run g.S.Step.kind g.S.Step.meaning _ refl (tells_none g.S.Step.kind g.S.Step.meaning c.args.cells.now)
