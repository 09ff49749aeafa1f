-- 64-bit floats as bounds and as values. Assumes nothing.
use Rattle.std.specs.Prelude.{ℕ, suc, ◌^◌, Bool, true, false, not, ◌&&◌, ℤ, pos, negsuc, ◌==◌, Float}
use Rattle.std.specs.Float.{nan, inf, fin, binary64}
use Rattle.std.specs.Float.Ieee.{round}
use Rattle.std.specs.Float.Ieee.Exact.{HasValue}

-- no not-a-number, and no zero but +0
abbrev pub proper : Float → Bool
proper nan = false
proper (inf s) = true
proper (fin s m e) = not (s && m == 0)

-- the float nearest to a / 2 ^ b
unfoldable pub dyadic : ℤ → ℕ → Float
dyadic (pos n) b = round binary64 false n (2 ^ b)
dyadic (negsuc n) b = round binary64 true (suc n) (2 ^ b)

-- x is finite, and it is the number a / c exactly, for a c above 0
abbrev pub Exactly : Float → ℤ → ℕ → Type 0
Exactly x (pos n) c = HasValue x false n c
Exactly x (negsuc n) c = HasValue x true (suc n) c
