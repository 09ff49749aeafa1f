-- What composing and comparing steps that are known by their meanings give. Assumes nothing.
use Rattle.std.proofs.Common.{◌≡◌, ◌+◌, ◌≤◌, Bool, true, false, Some, None, Option, MatchOption, IsSome, rules, arith}
use Rattle.steps.specs.Kind.{Kind, Lawful, Composed, Decides, limit}

-- steps whose sizes add up to no more than the limit compose
pub composes : (K : Kind) {S : Type 0} (mean : S → K.Element) (x y : K.Element) → K.size x + K.size y ≤ limit → (r : Option S) → Composed K mean x y r → IsSome r
composes K mean x y fits None c = absurd (omega arith)
composes K mean x y fits (Some s) c = search rules

module _ (K : Kind) (L : Lawful K) {S : Type 0} (mean : S → K.Element) where
  -- what composing gives depends on the meanings alone
  pub composed_same : (x x' y y' : K.Element) → K.same x x' → K.same y y' → (r : Option S) → Composed K mean x y r → Composed K mean x' y' r
  composed_same x x' y y' ex ey None c =
      let sx = L.size_same x x' ex in
      let sy = L.size_same y y' ey in
      omega arith
  composed_same x x' y y' ex ey (Some s) c =
      let sx = L.size_same x x' ex in
      let sy = L.size_same y y' ey in
      let le = c.0 in
      (omega arith, L.join _ _ _ c.1 (L.mul_same x x' y y' ex ey))

  -- and so does what comparing gives
  pub decides_same : (x y y' : K.Element) → K.same y y' → (r : Bool) → Decides r (K.same x y) → Decides r (K.same x y')
  decides_same x y y' ey true w = L.join _ _ _ w ey
  decides_same x y y' ey false w = λ s. w (L.join _ _ _ s (L.swap _ _ ey))

  -- x compared with what composing g and y gives, where they compose
  pub compared : (x g y : K.Element) (o : Option S) (r : Bool) → Composed K mean g y o → MatchOption o (r ≡ false) (λ s. Decides r (K.same x (mean s))) → K.size g + K.size y ≤ limit → Decides r (K.same x (K.mul g y))
  compared x g y None r c d fits = absurd (omega arith)
  compared x g y (Some s) r c d fits = decides_same x (mean s) (K.mul g y) c.1 r d
