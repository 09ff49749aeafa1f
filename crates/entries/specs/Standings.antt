-- How a point stands to another, and as what it is printed. Assumes nothing.
use Rattle.std.specs.Prelude.{ℕ, List, codes, Some, None, Option, MatchOption}
use Rattle.steps.specs.Kind.{Kind}
use Rattle.ledger.specs.Ties.{Tie, tied, Holds, Satisfies, Linked}
use Rattle.ledger.specs.Tells.{Contents, Tells}
use Rattle.ledger.specs.Calls.{Exactly, Both}

-- the step of a point against another: nothing where no chain of ties joins them, and else the one that every choice of values has
abbrev pub Against : (K : Kind) {S : Type 0} (mean : S → K.Element) → Contents S → ℕ → ℕ → Option S → Type 0
Against K mean s a b r = (ts : List (Tie K)) → Tells K mean s ts → MatchOption r (Both s.len a b → Linked K ts a b → ⊥) (λ g. (x : K.Element) → Exactly (K.same (mean g) x) ((v : ℕ → K.Element) → Satisfies K v ts → Holds K v (tied K a b x)))

-- as a step is printed, or that nothing is known
abbrev pub standing_text : {S : Type 0} → (S → Option (List ℕ)) → Option S → Option (List ℕ)
standing_text text None = Some (codes "not known")
standing_text text (Some s) = text s
