use Rattle.std.proofs.Common.{◌≡◌, ℤ, ◌+ℤ◌, ◌-ℤ◌, MatchOption, rules, arith}
use Rattle.std.proofs.lemmas.Int.{ints, to_z-of_z}
use Rattle.spans.specs.declared.bound.Bound.{Bound}
use Rattle.spans.specs.declared.bound.Bound.TheVariants.{Bottom, At}
use Rattle.spans.specs.Bounds.{low_bound}
use Rattle.spans.specs.Combining.{both_numbers, make_low}
use Rattle.spans.proofs.whole.WholeSpan.bounds.Goals as goal

-- r is the low bound that f makes of a and b, where it is at each two numbers
made : (f : ℤ → ℤ → ℤ) (a b r : Bound) (P : ℤ × ℤ → Type 0) → MatchOption (both_numbers a b) (r ≡ Bottom) P → ((x y : ℤ) → a ≡ At x → b ≡ At y → P (x, y) → r ≡ low_bound (f x y)) → r ≡ make_low f a b
made f a b r P h k = search rules

pub returns-in-Sum-clause-low : goal.returns-in-Sum-clause-low
returns-in-Sum-clause-low c =
    rw c.in-Sum.is (made ◌+ℤ◌ c.args.self.low c.args.other.low _ _ c.made_low.ensures (λ x y a b p. grind (arith, ints, to_z-of_z)))

pub returns-in-Difference-clause-low : goal.returns-in-Difference-clause-low
returns-in-Difference-clause-low c =
    rw c.in-Difference.is (made ◌-ℤ◌ c.args.self.low c.args.other.high _ _ c.made_low-in-Difference.ensures (λ x y a b p. grind (arith, ints, to_z-of_z)))
