-- What a ledger holds, and the ties that it tells of. Assumes nothing.
use Rattle.std.specs.Prelude.{◌≡◌, ℕ, ◌<◌, ◌≤◌, List, length}
use Rattle.steps.specs.Kind.{Kind}
use Rattle.ledger.specs.declared.cells.Cell.{Cell}
use Rattle.ledger.specs.Limits.{most_points}
use Rattle.ledger.specs.Trees.{roots, steps, Sound, Fits}
use Rattle.ledger.specs.Ties.{Tie, Satisfies, Within, Linked}

-- the cells, of which the first len hold the points
pub record Contents (S : Type 0) : Type 0 where
  pub cells : List (Cell S)
  pub len : ℕ

abbrev pub holding : {S : Type 0} → List (Cell S) → ℕ → Contents S
holding cs n = record { cells = cs; len = n }

module _ (K : Kind) {S : Type 0} (mean : S → K.Element) where
  -- the first n cells hold n points in trees
  pub record Kept (cs : List (Cell S)) (n : ℕ) : Type 0 where
    pub room : n ≤ length cs
    pub few : n ≤ most_points
    pub sound : Sound K n (roots cs) (steps K mean cs)

  -- the values v fit the cells
  abbrev pub CellsFit : List (Cell S) → ℕ → (ℕ → K.Element) → Type 0
  CellsFit cs n v = Fits K n (roots cs) (steps K mean cs) v

  -- the ledger tells of the ties ts, and of nothing else
  pub record Tells (s : Contents S) (ts : List (Tie K)) : Type 0 where
    pub kept : Kept s.cells s.len
    pub within : Within K s.len ts
    -- values fit exactly when they satisfy each tie
    pub says : (v : ℕ → K.Element) → CellsFit s.cells s.len v → Satisfies K v ts
    pub only : (v : ℕ → K.Element) → Satisfies K v ts → CellsFit s.cells s.len v
    -- two points have one root exactly when a chain of ties joins them
    pub linked : (p q : ℕ) → p < s.len → q < s.len → roots s.cells p ≡ roots s.cells q → Linked K ts p q
    pub joined : (p q : ℕ) → p < s.len → q < s.len → Linked K ts p q → roots s.cells p ≡ roots s.cells q

  -- of some ties
  abbrev pub TellsSome : Contents S → Type 0
  TellsSome s = (ts : List (Tie K)) × Tells s ts
