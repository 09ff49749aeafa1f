-- A fraction in lowest terms. Assumes nothing.
use Rattle.std.specs.Prelude.{◌≡◌, ℕ, ◌<◌}
use Rattle.std.specs.Int.{◌∣◌}
use Rattle.fractions.specs.Fractions.{Fraction, same}

-- x is n over d, which have no common factor but 1
pub record Reduced (x : Fraction) (n d : ℕ) : Type 0 where
  pub above : 0 < n
  pub below : 0 < d
  pub equal : same (record { num = n; den = d; num_pos = above; den_pos = below }) x
  pub apart : (k : ℕ) → k ∣ n → k ∣ d → k ≡ 1
