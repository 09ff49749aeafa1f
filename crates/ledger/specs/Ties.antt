-- Ties, the values that satisfy them, and the chains that they make. Assumes nothing.
use Rattle.std.specs.Prelude.{◌≡◌, ℕ, ◌<◌, ◌⊎◌, List, [], ◌∷◌}
use Rattle.steps.specs.Kind.{Kind}

-- the value at the point `left` is `by` times the value at the point `right`
pub record Tie (K : Kind) : Type 0 where
  pub left : ℕ
  pub right : ℕ
  pub by : K.Element

module _ (K : Kind) where
  abbrev pub tied : ℕ → ℕ → K.Element → Tie K
  tied a b g = record { left = a; right = b; by = g }

  -- the tie holds of the values v, one for each point (and for each number that is no point: ties name none)
  abbrev pub Holds : (ℕ → K.Element) → Tie K → Type 0
  Holds v t = K.same (v t.left) (K.mul t.by (v t.right))

  -- every tie holds of the values v
  abbrev pub Satisfies : (ℕ → K.Element) → List (Tie K) → Type 0
  Satisfies v [] = Unit {0}
  Satisfies v (t ∷ ts) = Holds v t × Satisfies v ts

  -- the ties are of the first n points
  abbrev pub Within : ℕ → List (Tie K) → Type 0
  Within n [] = Unit {0}
  Within n (t ∷ ts) = ((t.left < n) × (t.right < n)) × Within n ts

  -- a tie of the list is of p and q, either way round
  abbrev pub Joins : List (Tie K) → ℕ → ℕ → Type 0
  Joins [] p q = ⊥
  Joins (t ∷ ts) p q = (((t.left ≡ p) × (t.right ≡ q)) ⊎ ((t.left ≡ q) × (t.right ≡ p))) ⊎ Joins ts p q

  -- from p over the points ms to q, by a tie at each turn
  abbrev pub Chain : List (Tie K) → ℕ → List ℕ → ℕ → Type 0
  Chain ts p [] q = p ≡ q
  Chain ts p (m ∷ ms) q = Joins ts p m × Chain ts m ms q

  -- a chain of ties joins p and q
  abbrev pub Linked : List (Tie K) → ℕ → ℕ → Type 0
  Linked ts p q = (ms : List ℕ) × Chain ts p ms q
