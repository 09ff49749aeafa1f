-- What a phase reading states. Assumes nothing.
use Rattle.steps.specs.Phases.{phases, flips}
use Rattle.ledger.specs.Ties.{Tie, tied}
use Rattle.phase_readings.specs.declared.Reading.{Reading}

-- the tie that a reading states
abbrev pub stated : Reading → Tie phases
stated r = tied phases r.output r.against (flips r.phase)
