use Rattle.std.proofs.Common.{rules}
use Rattle.ledger.proofs.cells.Cell.move_from.Goals as goal

-- the step after it means their product in the order of the call: commuting, a law of the kind, is not used
pub returns-in-Some : goal.returns-in-Some
returns-in-Some g c = record {
  there = search rules;
  along = λ from small. c.in-Some.ensures.1;
  stays = search rules;
}
