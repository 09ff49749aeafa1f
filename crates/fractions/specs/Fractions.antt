-- Positive fractions: when two are equal, which is the larger, their products, and which are natural. Assumes nothing.
use Rattle.std.specs.Prelude.{◌≡◌, ℕ, ◌*◌, ◌<◌, ◌≤◌}
use Rattle.std.proofs.Common.{mul-pos, lit<}

pub record Fraction : Type 0 where
  pub num : ℕ
  pub den : ℕ
  pub num_pos : 0 < num
  pub den_pos : 0 < den

-- x equals y
abbrev pub same : Fraction → Fraction → Type 0
same x y = x.num * y.den ≡ y.num * x.den

-- x is at least as large as y
abbrev pub AtLeast : Fraction → Fraction → Type 0
AtLeast x y = y.num * x.den ≤ x.num * y.den

abbrev pub mul : Fraction → Fraction → Fraction
mul x y = record { num = x.num * y.num; den = x.den * y.den; num_pos = mul-pos x.num_pos y.num_pos; den_pos = mul-pos x.den_pos y.den_pos }

abbrev pub inv : Fraction → Fraction
inv x = record { num = x.den; den = x.num; num_pos = x.den_pos; den_pos = x.num_pos }

-- n over 1
abbrev pub whole : (n : ℕ) → 0 < n → Fraction
whole n h = record { num = n; den = 1; num_pos = h; den_pos = lit< tt }

abbrev pub one : Fraction
one = whole 1 (lit< tt)

-- x equals a whole number over 1
abbrev pub Natural : Fraction → Type 0
Natural x = (n : ℕ) × (h : 0 < n) × same x (whole n h)
