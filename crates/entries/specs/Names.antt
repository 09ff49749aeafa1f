-- The names of points. Assumes nothing.
use Rattle.std.specs.Prelude.{◌≡◌, ℕ, List, codes, slice_get, MatchOption}
use Rattle.std.specs.Borrow.{Bor}

-- the name at the place of the point; past the end, words that say so
abbrev pub Named : List (Bor (List ℕ)) → ℕ → Bor (List ℕ) → Type 0
Named names point r = MatchOption (slice_get names point) (r.now ≡ codes "not named") (λ name. r ≡ name)
