-- What comes of a statement. Assumes nothing.
use Rattle.std.specs.Prelude.{◌≡◌, ℕ, Bool, List, Ok, Err, MatchBool, Result}
use Rattle.steps.specs.Kind.{Kind}
use Rattle.ledger.specs.declared.faults.Fault.{Fault}
use Rattle.ledger.specs.Ties.{Tie, Linked}
use Rattle.ledger.specs.Tells.{Contents, Tells}
use Rattle.ledger.specs.Calls.{Both, Tying}
use Rattle.entries.specs.declared.statements.Entry.{Entry}
use Rattle.entries.specs.declared.statements.Entry.TheVariants.{Noted, Known}

-- what the ledger answers to a tie with this outcome
abbrev pub answered : Result Entry Fault → Result (Unit {0}) Fault
answered (Ok x) = Ok tt
answered (Err e) = Err e

-- r tells of two points whether a chain of ties joins them
abbrev pub Joined : (K : Kind) {S : Type 0} (mean : S → K.Element) → Contents S → ℕ → ℕ → Bool → Type 0
Joined K mean s a b r = (ts : List (Tie K)) → Tells K mean s ts → MatchBool r (Linked K ts a b) (Both s.len a b → Linked K ts a b → ⊥)

pub record Entered (K : Kind) {S : Type 0} (mean : S → K.Element) (s : Contents S) (t : Tie K) (o : Result Entry Fault) (s' : Contents S) : Type 0 where
  -- the statement is entered as a tie, and the outcome is the ledger's answer
  pub ties : Tying K mean s t (answered o) s'
  -- where it is not refused, it is known if a chain of ties joined the two points before, and noted if none did
  pub known : (ts : List (Tie K)) → Tells K mean s ts → o ≡ Ok Known → Linked K ts t.left t.right
  pub noted : (ts : List (Tie K)) → Tells K mean s ts → o ≡ Ok Noted → Linked K ts t.left t.right → ⊥
