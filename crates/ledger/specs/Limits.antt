-- How many points a ledger may have. Assumes nothing.
use Rattle.std.specs.Prelude.{ℕ, min}

-- the most points that a ledger has, however much memory it is lent
abbrev pub most_points : ℕ
most_points = 512

-- the most points that a ledger over `cells` cells has
abbrev pub capacity : ℕ → ℕ
capacity cells = min cells most_points
