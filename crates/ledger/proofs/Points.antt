-- A point more, in the next cell. Assumes nothing.
use Rattle.std.proofs.Common.{◌≡◌, ℕ, ◌+◌, ◌<◌, List, length, sym, refl, ap, ◌∙◌, subst, mul-le-mul_right, one-mul, arith, below_more}
use Rattle.steps.specs.Kind.{Kind, Lawful}
use Rattle.ledger.specs.declared.cells.Cell.{Cell}
use Rattle.ledger.specs.Limits.{most_points}
use Rattle.ledger.specs.Trees.{roots, steps, Short, Sound, Fits}
use Rattle.ledger.specs.Tells.{Kept}
use Rattle.ledger.proofs.Grown.{Point}
use Rattle.ledger.proofs.Groups.{Eq, on_right, inv_one}
use Rattle.ledger.proofs.Counts.{count_more, count_last}

module _ (K : Kind) (L : Lawful K) (n : ℕ) (root : ℕ → ℕ) (step : ℕ → K.Element) (own : root n ≡ n) (unit : Eq K L (step n) K.one) where
  on_fits : (v : ℕ → K.Element) → Fits K n root step v → Fits K (n + 1) root step v
  on_fits v fits =
      below_more (λ p. Eq K L (v p) (K.mul (step p) (v (root p)))) n fits
      (subst (λ (r : ℕ). Eq K L (v n) (K.mul (step n) (v r))) (sym own)
      (L.swap _ _ (L.join _ _ _ (on_right K L _ _ (v n) unit) (L.left (v n)))))

  module _ (sound : Sound K n root step) where
    near_old : (p q : ℕ) → p < n → q < n → root p ≡ root q → Short K (n + 1) root (root p) (K.mul (step p) (K.inv (step q)))
    near_old p q hp hq e =
        let x = sound.near p q hp hq e in
        let m = mul-le-mul_right K.most (count_more root (root p) n) in
        omega arith

    near_new : Short K (n + 1) root (root n) (K.mul (step n) (K.inv (step n)))
    near_new =
        let e : Eq K L (K.mul (step n) (K.inv (step n))) K.one =
        L.join _ _ _ (L.mul_same _ _ _ _ unit (L.join _ _ _ (L.inv_same _ _ unit) (inv_one K L))) (L.left K.one) in
        let s = L.size_same _ _ e ∙ L.size_one in
        let m = mul-le-mul_right K.most (count_last root (root n) n refl) in
        let o = one-mul K.most in
        omega arith

    grown : Sound K (n + 1) root step
    grown = record {
      inside = below_more (λ p. root p < n + 1) n (λ p h. let x = sound.inside p h in omega arith) (omega arith);
      top = below_more (λ p. root (root p) ≡ root p) n sound.top (ap root own);
      still = below_more (λ p. Eq K L (step (root p)) K.one) n sound.still (subst (λ (r : ℕ). Eq K L (step r) K.one) (sym own) unit);
      near = λ p q hp hq.
          below_more (λ p. (q : ℕ) → q < n + 1 → root p ≡ root q → Short K (n + 1) root (root p) (K.mul (step p) (K.inv (step q)))) n
          (λ p hp. below_more (λ q. root p ≡ root q → Short K (n + 1) root (root p) (K.mul (step p) (K.inv (step q)))) n
          (λ q hq. near_old p q hp hq)
          (λ e. let x = sound.inside p hp in absurd (omega arith)))
          (below_more (λ q. root n ≡ root q → Short K (n + 1) root (root n) (K.mul (step n) (K.inv (step q)))) n
          (λ q hq e. let x = sound.inside q hq in absurd (omega arith))
          (λ e. near_new))
          p hp q hq;
    }

module _ (K : Kind) (L : Lawful K) {S : Type 0} (mean : S → K.Element) (cs : List (Cell S)) (n : ℕ) (kept : Kept K mean cs n) (room : n < length cs) (few : n < most_points) (own : roots cs n ≡ n) (unit : Eq K L (steps K mean cs n) K.one) where
  pub new_point : Point K mean cs n
  new_point = record {
    kept = record { room = omega arith; few = omega arith; sound = grown K L n (roots cs) (steps K mean cs) own unit kept.sound };
    own = own;
    on = on_fits K L n (roots cs) (steps K mean cs) own unit;
  }
