-- What a new point and an accepted tie do to the cells. Assumes nothing.
use Rattle.std.proofs.Common.{◌≡◌, ℕ, ◌+◌, ◌<◌, ◌⊎◌, List}
use Rattle.steps.specs.Kind.{Kind}
use Rattle.ledger.specs.declared.cells.Cell.{Cell}
use Rattle.ledger.specs.Trees.{roots}
use Rattle.ledger.specs.Ties.{tied, Holds}
use Rattle.ledger.specs.Tells.{Kept, CellsFit}

-- two points had one root, or the tie of a to b joins their trees
abbrev pub From : {S : Type 0} → List (Cell S) → ℕ → ℕ → ℕ → ℕ → Type 0
From cs a b p q = (roots cs p ≡ roots cs q) ⊎ (((roots cs p ≡ roots cs a) × (roots cs b ≡ roots cs q)) ⊎ ((roots cs p ≡ roots cs b) × (roots cs a ≡ roots cs q)))

module _ (K : Kind) {S : Type 0} (mean : S → K.Element) where
  pub record Point (cs : List (Cell S)) (n : ℕ) : Type 0 where
    pub kept : Kept K mean cs (n + 1)
    pub own : roots cs n ≡ n
    pub on : (v : ℕ → K.Element) → CellsFit K mean cs n v → CellsFit K mean cs (n + 1) v

  pub record Tied (cs : List (Cell S)) (n : ℕ) (cs' : List (Cell S)) (a b : ℕ) (g : K.Element) : Type 0 where
    pub kept : Kept K mean cs' n
    pub some : (v : ℕ → K.Element) × CellsFit K mean cs' n v
    pub on : (v : ℕ → K.Element) → CellsFit K mean cs n v → Holds K v (tied K a b g) → CellsFit K mean cs' n v
    pub back : (v : ℕ → K.Element) → CellsFit K mean cs' n v → CellsFit K mean cs n v
    pub ties : (v : ℕ → K.Element) → CellsFit K mean cs' n v → Holds K v (tied K a b g)
    pub one : (p q : ℕ) → p < n → q < n → roots cs p ≡ roots cs q → roots cs' p ≡ roots cs' q
    pub ends : roots cs' a ≡ roots cs' b
    pub from : (p q : ℕ) → p < n → q < n → roots cs' p ≡ roots cs' q → From cs a b p q

  abbrev pub Clashes : List (Cell S) → ℕ → ℕ → ℕ → K.Element → Type 0
  Clashes cs n a b g = (v : ℕ → K.Element) → CellsFit K mean cs n v → Holds K v (tied K a b g) → ⊥
