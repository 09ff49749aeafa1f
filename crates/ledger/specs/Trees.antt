-- How cells hold ties: the points of a tree hang on its root, each by a step. Assumes nothing.
use Rattle.std.specs.Prelude.{◌≡◌, ℕ, zero, suc, ◌+◌, ◌*◌, ◌<◌, ◌≤◌, cond, List, [], ◌∷◌, length, ◌==◌, ◌≢◌}
use Rattle.steps.specs.Kind.{Kind, limit}
use Rattle.ledger.specs.declared.cells.Cell.{Cell}

-- a cell that was lent to no ledger yet
abbrev pub Blank : (K : Kind) {S : Type 0} (mean : S → K.Element) → Cell S → Type 0
Blank K mean c = (c.root ≡ 0) × K.same (mean c.step) K.one

-- `f` of the element at `k`, and `d` past the end
abbrev pub at : {X Y : Type 0} → (X → Y) → Y → List X → ℕ → Y
at f d [] k = d
at f d (x ∷ xs) zero = f x
at f d (x ∷ xs) (suc k) = at f d xs k

-- the root of each point
abbrev pub roots : {S : Type 0} → List (Cell S) → ℕ → ℕ
roots cs = at (λ c. c.root) 0 cs

-- what each point's step means: its value is this times that of its root
abbrev pub steps : (K : Kind) {S : Type 0} (mean : S → K.Element) → List (Cell S) → ℕ → K.Element
steps K mean cs = at (λ c. mean c.step) K.one cs

-- how many of the first n numbers f takes to r
abbrev pub count : (ℕ → ℕ) → ℕ → ℕ → ℕ
count f r zero = 0
count f r (suc n) = count f r n + cond (f n == r) 1 0

-- the size of x is at most (points of the tree r − 1) times the largest size of a tie
abbrev pub Short : (K : Kind) (n : ℕ) (root : ℕ → ℕ) (r : ℕ) → K.Element → Type 0
Short K n root r x = K.size x + K.most ≤ count root r n * K.most

-- the first n points are in trees
pub record Sound (K : Kind) (n : ℕ) (root : ℕ → ℕ) (step : ℕ → K.Element) : Type 0 where
  -- a root is a point
  pub inside : (p : ℕ) → p < n → root p < n
  -- its own root
  pub top : (p : ℕ) → p < n → root (root p) ≡ root p
  -- by the unit
  pub still : (p : ℕ) → p < n → K.same (step (root p)) K.one
  -- a step between two points of a tree is short
  pub near : (p q : ℕ) → p < n → q < n → root p ≡ root q → Short K n root (root p) (K.mul (step p) (K.inv (step q)))

-- the values v fit the trees: each is its point's step times the value of the root
abbrev pub Fits : (K : Kind) (n : ℕ) (root : ℕ → ℕ) (step : ℕ → K.Element) → (ℕ → K.Element) → Type 0
Fits K n root step v = (p : ℕ) → p < n → K.same (v p) (K.mul (step p) (v (root p)))

-- the points of the tree `from` can be moved along `by`: no step that is made is too large to compose
abbrev pub Movable : (K : Kind) (n : ℕ) (root : ℕ → ℕ) (step : ℕ → K.Element) (from : ℕ) (by : K.Element) → Type 0
Movable K n root step from by = (p : ℕ) → p < n → root p ≡ from → K.size (step p) + K.size by ≤ limit

-- the points of the tree `from` go by `by` to the root `to`, and the others stay
pub record Moved (K : Kind) (n : ℕ) (root : ℕ → ℕ) (step : ℕ → K.Element) (root' : ℕ → ℕ) (step' : ℕ → K.Element) (from to : ℕ) (by : K.Element) : Type 0 where
  pub there : (p : ℕ) → p < n → root p ≡ from → root' p ≡ to
  pub along : (p : ℕ) → p < n → root p ≡ from → K.same (step' p) (K.mul (step p) by)
  pub stays : (p : ℕ) → p < n → (root p ≢ from) → root' p ≡ root p
  pub keeps : (p : ℕ) → p < n → (root p ≢ from) → step' p ≡ step p

-- all of the cells cs are moved so, to become ds, where that can be done
abbrev pub Relabelled : (K : Kind) {S : Type 0} (mean : S → K.Element) (cs ds : List (Cell S)) (from to : ℕ) (by : K.Element) → Type 0
Relabelled K mean cs ds from to by =
    Movable K (length cs) (roots cs) (steps K mean cs) from by
    → Moved K (length cs) (roots cs) (steps K mean cs) (roots ds) (steps K mean ds) from to by

-- the same of the cell of a point, c before and c' after
pub record CellMoved (K : Kind) {S : Type 0} (mean : S → K.Element) (c c' : Cell S) (from to : ℕ) (by : K.Element) : Type 0 where
  pub there : c.root ≡ from → K.size (mean c.step) + K.size by ≤ limit → c'.root ≡ to
  pub along : c.root ≡ from → K.size (mean c.step) + K.size by ≤ limit → K.same (mean c'.step) (K.mul (mean c.step) by)
  pub stays : (c.root ≢ from) → c' ≡ c
