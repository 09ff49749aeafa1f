-- Reads and writes of cells, through `at`. Assumes nothing.
use Rattle.std.proofs.Common.{◌≡◌, ℕ, zero, suc, ◌<◌, List, [], ◌∷◌, length, get_or, set, refl, ap, le_of_suc-le-suc, not-suc-le-zero}
use Rattle.ledger.specs.declared.cells.Cell.{Cell}
use Rattle.ledger.specs.Trees.{at}

abbrev pub cell : {S : Type 0} → ℕ → S → Cell S
cell r s = record { root = r; step = s }

module _ {X Y : Type 0} (f : X → Y) (d : Y) where
  pub at-get_or : (xs : List X) (k : ℕ) (e : X) → k < length xs → at f d xs k ≡ f (get_or xs k e)
  at-get_or [] k e h = absurd (not-suc-le-zero h)
  at-get_or (y ∷ xs) zero e h = refl
  at-get_or (y ∷ xs) (suc k) e h = at-get_or xs k e (le_of_suc-le-suc h)

  pub at_set_same : (xs : List X) (k : ℕ) (x : X) → k < length xs → at f d (set xs k x) k ≡ f x
  at_set_same [] k x h = absurd (not-suc-le-zero h)
  at_set_same (y ∷ xs) zero x h = refl
  at_set_same (y ∷ xs) (suc k) x h = at_set_same xs k x (le_of_suc-le-suc h)

  pub at_set_other : (xs : List X) (k p : ℕ) (x : X) → (p ≡ k → ⊥) → at f d (set xs k x) p ≡ at f d xs p
  at_set_other [] k p x n = refl
  at_set_other (y ∷ xs) zero zero x n = absurd (n refl)
  at_set_other (y ∷ xs) zero (suc p) x n = refl
  at_set_other (y ∷ xs) (suc k) zero x n = refl
  at_set_other (y ∷ xs) (suc k) (suc p) x n = at_set_other xs k p x (λ e. n (ap suc e))
