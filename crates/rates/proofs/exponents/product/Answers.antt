use Rattle.std.proofs.Common.{◌≡◌, ℕ, ◌*◌, ◌^◌, ◌<◌, map, ◌∙◌, subst, ap₂, one-mul, arith, rules}
use Rattle.std.specs.Iterator.Adapters.{zip_first, zip_second}
use Rattle.std.specs.Slice.Iter.{iter_rest}
use borrow.Author.Differences.{up}
use Rattle.fractions.specs.Powers.{product, product_pos}
use Rattle.rates.specs.Listed.{listed}
use Rattle.rates.specs.Calls.{Bounded}
use Rattle.rates.proofs.Ratios.{turn, turn_none, turn_fits, power_fits, turns_all}
use Rattle.rates.proofs.exponents.product.Goals as goal

pub loop-prime-init : goal.loop-prime-init
loop-prime-init c =
    let f : iter_rest (zip_first c.into_iter-prime-iterator.result) ≡ listed = cc in
    let s : iter_rest (zip_second c.into_iter-prime-iterator.result) ≡ c.args.exponents.now = cc in
    one-mul _ ∙ ap₂ (λ ps es. product ps (map up es)) f s

pub loop-prime-preserved-then-times-gt0 : goal.loop-prime-preserved-then-times-gt0
loop-prime-preserved-then-times-gt0 c =
    rw (c.in_ok-product.ensures.1, c.in_ok-power.ensures.1) (turn c.loop-prime.prime-iterator c.next.new.self _ _ c.in-Some.is c.next.ensures.steps _ _ _ (search rules) c.loop-prime.invariant)

pub loop-prime-preserved : goal.loop-prime-preserved
loop-prime-preserved c =
    turn_none c.loop-prime.prime-iterator c.next.new.self _ _ c.in-Some.is c.next.ensures.steps _ c.positive_part-times.result _ (search rules) c.loop-prime.invariant (omega arith)

pub returns-in_err-power : goal.returns-in_err-power
returns-in_err-power c =
    let q = power_fits c.loop-prime.prime-iterator c.next.new.self _ _ c.in-Some.is c.next.ensures.steps _ c.positive_part-times.result _ (search rules) c.loop-prime.invariant (product_pos listed (map up c.args.exponents.now) tt) in
    let f : c.in-Some.prime.now ^ c.positive_part-times.result < 2 ^ 64 → ⊥ = c.in_err-power.ensures in
    rw c.from_residual.ensures (omega arith)

pub returns-in_err-product : goal.returns-in_err-product
returns-in_err-product c =
    let q = turn_fits c.loop-prime.prime-iterator c.next.new.self _ _ c.in-Some.is c.next.ensures.steps _ c.positive_part-times.result _ (search rules) c.loop-prime.invariant (product_pos listed (map up c.args.exponents.now) tt) in
    let f : c.loop-prime.product * c.in-Some.prime.now ^ c.positive_part-times.result < 2 ^ 64 → ⊥ = rw c.in_ok-power.ensures.1 at c.in_err-product.ensures in
    rw c.from_residual-in_err-product.ensures (omega arith)

pub returns : goal.returns
returns c = subst (λ (n : ℕ). Bounded n c.bounded.result) (turns_all c.loop-prime.prime-iterator c.next.new.self _ c.in-None.is c.next.ensures.steps _ _ c.loop-prime.invariant) c.bounded.ensures
