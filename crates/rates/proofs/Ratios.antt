-- The turns of the loop that multiplies powers. Assumes nothing.
use Rattle.std.proofs.Common.{◌≡◌, ℕ, ◌*◌, ◌^◌, ◌<◌, ◌≤◌, List, [], ◌∷◌, map, ℤ, Option, Some, None, Bor, Iter, sym, refl, ap, ◌∙◌, ap₂, mul_assoc, mul_comm, mul-one, zero, suc, arith}
use native.Mathlib.Nat.{pow-zero}
use Rattle.std.proofs.Math.Nat.{le-mul_of_pos_right}
use mathlib.Core.Logic.{◌⊎◌, inl, inr}
use borrow.Author.Differences.{up}
use Rattle.std.specs.Iterator.Adapters.{zip_first, zip_second}
use Rattle.std.specs.declared.iter.Zip.{Zip}
use Rattle.std.specs.Slice.Iter.{iter_rest}
use Rattle.std.proofs.iter.Yields.{fronts}
use Rattle.std.proofs.lemmas.Iterator.{zips}
use Rattle.std.proofs.lemmas.Slice.Zip.{Zip-more, either_empty_from_Zip}
use Rattle.fractions.specs.Powers.{product}

factor_le : (a b t : ℕ) → a * b ≡ t → 0 < t → a ≤ t
factor_le a zero t e h = absurd (omega arith)
factor_le a (suc b) t e h = let m : a ≤ a * suc b = le-mul_of_pos_right a (omega arith) in omega arith

-- the product of what a loop over primes and exponents has not passed yet
abbrev pub left : Zip (Iter ℕ) (Iter ℤ) → ℕ
left s = product (iter_rest (zip_first s)) (map up (iter_rest (zip_second s)))

-- one turn of the loop
module _ (s t : Zip (Iter ℕ) (Iter ℤ)) (r : Option (Bor ℕ × Bor ℤ)) (p : Bor ℕ × Bor ℤ) (some : r ≡ Some p) (step : zips fronts fronts s r t) (a x n : ℕ) (part : x ≡ up p.1.now) (all : a * left s ≡ n) where
  pub turn : a * p.0.now ^ x * left t ≡ n
  turn =
      let z = Zip-more s t r p some step in
      let e : p.0.now ^ x * left t ≡ left s = ap (λ y. p.0.now ^ y * left t) part ∙ sym (ap₂ product z.0 (ap (map up) z.1)) in
      mul_assoc a (p.0.now ^ x) (left t) ∙ ap (λ y. a * y) e ∙ all

  -- the power of an exponent that is 0 changes nothing
  pub turn_none : x ≡ 0 → a * left t ≡ n
  turn_none z =
      let e : a * p.0.now ^ x ≡ a = ap (λ y. a * p.0.now ^ y) z ∙ ap (λ y. a * y) (pow-zero p.0.now) ∙ mul-one a in
      ap (λ y. y * left t) (sym e) ∙ turn

  -- neither the power nor the product so far is larger than the whole
  pub turn_fits : 0 < n → a * p.0.now ^ x ≤ n
  turn_fits h = factor_le (a * p.0.now ^ x) (left t) n turn h

  pub power_fits : 0 < n → p.0.now ^ x ≤ n
  power_fits h = factor_le (p.0.now ^ x) (a * left t) n (sym (mul_assoc (p.0.now ^ x) a (left t)) ∙ ap (λ y. y * left t) (mul_comm (p.0.now ^ x) a) ∙ turn) h

no_more : (ps : List ℕ) → product ps [] ≡ 1
no_more [] = refl
no_more (p ∷ ps) = refl

none_left : (ps : List ℕ) (es : List ℤ) → ps ≡ [] ⊎ es ≡ [] → product ps (map up es) ≡ 1
none_left ps es (inl e) = ap (λ qs. product qs (map up es)) e
none_left ps es (inr e) = ap (λ fs. product ps (map up fs)) e ∙ no_more ps

-- nothing is left
pub turns_all : (s t : Zip (Iter ℕ) (Iter ℤ)) (r : Option (Bor ℕ × Bor ℤ)) → r ≡ None → zips fronts fronts s r t → (a n : ℕ) → a * left s ≡ n → a ≡ n
turns_all s t r none step a n all =
    let e : left s ≡ 1 = none_left _ _ (either_empty_from_Zip s t r none step) in
    sym (mul-one a) ∙ ap (λ y. a * y) (sym e) ∙ all
