-- What a kind of step is, the laws that it shows, and what its operations answer. Assumes nothing.
use Rattle.std.specs.Prelude.{◌≡◌, ℕ, ◌+◌, ◌<◌, ◌≤◌, Bool, MatchBool, Option, MatchOption}

-- two steps compose while their sizes add up to no more than this
abbrev pub limit : ℕ
limit = 67108864

-- a group, its elements equal when they are `same`, with the size of each element and the largest size of a single tie
pub record Kind : Type 1 where
  pub Element : Type 0
  pub same : Element → Element → Type 0
  pub one : Element
  pub mul : Element → Element → Element
  pub inv : Element → Element
  pub size : Element → ℕ
  pub most : ℕ

pub record Lawful (K : Kind) : Type 0 where
  -- `same` is an equality that the operations respect
  pub rfl : (x : K.Element) → K.same x x
  pub swap : (x y : K.Element) → K.same x y → K.same y x
  pub join : (x y z : K.Element) → K.same x y → K.same y z → K.same x z
  pub mul_same : (x y z w : K.Element) → K.same x y → K.same z w → K.same (K.mul x z) (K.mul y w)
  pub inv_same : (x y : K.Element) → K.same x y → K.same (K.inv x) (K.inv y)
  -- the elements are a group
  pub assoc : (x y z : K.Element) → K.same (K.mul (K.mul x y) z) (K.mul x (K.mul y z))
  pub left : (x : K.Element) → K.same (K.mul K.one x) x
  pub inverse : (x : K.Element) → K.same (K.mul (K.inv x) x) K.one
  -- sizes
  pub size_same : (x y : K.Element) → K.same x y → K.size x ≡ K.size y
  pub size_one : K.size K.one ≡ 0
  pub size_inv : (x : K.Element) → K.size (K.inv x) ≡ K.size x
  pub size_mul : (x y : K.Element) → K.size (K.mul x y) ≤ K.size x + K.size y
  pub small : K.most ≤ 65536

abbrev pub Commutes : Kind → Type 0
Commutes K = (x y : K.Element) → K.same (K.mul x y) (K.mul y x)

-- composing x and y gives no step exactly when their sizes add up to more than the limit, and else one that means their product
abbrev pub Composed : (K : Kind) {S : Type 0} (mean : S → K.Element) (x y : K.Element) → Option S → Type 0
Composed K mean x y r = MatchOption r (limit < K.size x + K.size y) (λ s. (K.size x + K.size y ≤ limit) × K.same (mean s) (K.mul x y))

-- r is true exactly when P holds
abbrev pub Decides : Bool → Type 0 → Type 0
Decides r P = MatchBool r P (P → ⊥)
