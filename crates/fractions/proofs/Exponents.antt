-- Lists of exponents and the fractions that they stand for. Assumes nothing.
use Rattle.std.proofs.Common.{◌≡◌, ℕ, zero, suc, ◌+◌, ◌*◌, T, List, [], ◌∷◌, map, length, ℤ, pos, negsuc, ◌+ℤ◌, sym, refl, ap, ◌∙◌, ap₂, arith}
use lib.ListN.{length-map}
use borrow.Author.Differences.{up, down, ints, same_in}
use Rattle.fractions.specs.Fractions.{same, mul, inv}
use Rattle.fractions.specs.Powers.{product, positive, fraction}
use Rattle.fractions.specs.Exponents.{zip_with, added, negated}
use Rattle.fractions.proofs.Primes.{Primes}
use Rattle.fractions.proofs.Products.{product_add, product_inj}

pub length-zip : {A B C : Type 0} (f : A → B → C) (xs : List A) (ys : List B) (n : ℕ) → length xs ≡ n → length ys ≡ n → length (zip_with f xs ys) ≡ n
length-zip f [] ys n h k = h
length-zip f (x ∷ xs) [] n h k = k
length-zip f (x ∷ xs) (y ∷ ys) zero h k = absurd (omega arith)
length-zip f (x ∷ xs) (y ∷ ys) (suc n) h k = ap suc (length-zip f xs ys n (omega arith) (omega arith))

pub length-ups : (es : List ℤ) (n : ℕ) → length es ≡ n → length (map up es) ≡ n
length-ups es n h = length-map es up ∙ h

pub length-downs : (es : List ℤ) (n : ℕ) → length es ≡ n → length (map down es) ≡ n
length-downs es n h = length-map es down ∙ h

-- up (x + y) + (down x + down y) = (up x + up y) + down (x + y), at each place
sums : (es fs : List ℤ) → length es ≡ length fs → zip_with ◌+◌ (map up (added es fs)) (zip_with ◌+◌ (map down es) (map down fs)) ≡ zip_with ◌+◌ (zip_with ◌+◌ (map up es) (map up fs)) (map down (added es fs))
sums [] [] h = refl
sums [] (f ∷ fs) h = absurd (omega arith)
sums (e ∷ es) [] h = absurd (omega arith)
sums (e ∷ es) (f ∷ fs) h =
    let a : up (e +ℤ f) + (down e + down f) ≡ (up e + up f) + down (e +ℤ f) = omega (arith, ints) in
    ap₂ ◌∷◌ a (sums es fs (omega arith))

module _ (ps : List ℕ) (t : T (positive ps)) where
  -- the sum of exponents is the product
  pub fraction_add : (es fs : List ℤ) → length es ≡ length ps → length fs ≡ length ps → same (fraction ps t (added es fs)) (mul (fraction ps t es) (fraction ps t fs))
  fraction_add es fs h k =
      let n : ℕ = length ps in
      let s : List ℤ = added es fs in
      let hs : length s ≡ n = length-zip ◌+ℤ◌ es fs n h k in
      let due = length-ups es n h in
      let duf = length-ups fs n k in
      let dde = length-downs es n h in
      let ddf = length-downs fs n k in
      let dus = length-ups s n hs in
      let dds = length-downs s n hs in
      ap (λ (x : ℕ). product ps (map up s) * x) (sym (product_add ps (map down es) (map down fs) dde ddf))
      ∙ sym (product_add ps (map up s) (zip_with ◌+◌ (map down es) (map down fs)) dus (length-zip ◌+◌ (map down es) (map down fs) n dde ddf))
      ∙ ap (product ps) (sums es fs (h ∙ sym k))
      ∙ product_add ps (zip_with ◌+◌ (map up es) (map up fs)) (map down s) (length-zip ◌+◌ (map up es) (map up fs) n due duf) dds
      ∙ ap (λ (x : ℕ). x * product ps (map down s)) (product_add ps (map up es) (map up fs) due duf)

pub up_neg : (es : List ℤ) → map up (negated es) ≡ map down es
up_neg [] = refl
up_neg (pos zero ∷ es) = ap₂ ◌∷◌ refl (up_neg es)
up_neg (pos (suc n) ∷ es) = ap₂ ◌∷◌ refl (up_neg es)
up_neg (negsuc n ∷ es) = ap₂ ◌∷◌ refl (up_neg es)

down_neg : (es : List ℤ) → map down (negated es) ≡ map up es
down_neg [] = refl
down_neg (pos zero ∷ es) = ap₂ ◌∷◌ refl (down_neg es)
down_neg (pos (suc n) ∷ es) = ap₂ ◌∷◌ refl (down_neg es)
down_neg (negsuc n ∷ es) = ap₂ ◌∷◌ refl (down_neg es)

module _ (ps : List ℕ) (t : T (positive ps)) where
  -- the negated exponents are the inverse
  pub fraction_neg : (es : List ℤ) → same (fraction ps t (negated es)) (inv (fraction ps t es))
  fraction_neg es = ap₂ ◌*◌ (ap (product ps) (up_neg es)) (ap (product ps) (sym (down_neg es)))

crossed : (es fs : List ℤ) → length es ≡ length fs → zip_with ◌+◌ (map up es) (map down fs) ≡ zip_with ◌+◌ (map up fs) (map down es) → es ≡ fs
crossed [] [] h e = refl
crossed [] (y ∷ fs) h e = absurd (omega arith)
crossed (x ∷ es) [] h e = absurd (omega arith)
crossed (x ∷ es) (y ∷ fs) h e =
    let a : up x + down y ≡ up y + down x = cc in
    let r : zip_with ◌+◌ (map up es) (map down fs) ≡ zip_with ◌+◌ (map up fs) (map down es) = cc in
    ap₂ ◌∷◌ (same_in x y a) (crossed es fs (omega arith) r)

module _ (ps : List ℕ) (t : T (positive ps)) where
  -- the same fraction has the same exponents
  pub fraction_inj : Primes ps → (es fs : List ℤ) → length es ≡ length ps → length fs ≡ length ps → same (fraction ps t es) (fraction ps t fs) → es ≡ fs
  fraction_inj b es fs h k e =
      let n : ℕ = length ps in
      let due = length-ups es n h in
      let duf = length-ups fs n k in
      let dde = length-downs es n h in
      let ddf = length-downs fs n k in
      let r : product ps (zip_with ◌+◌ (map up es) (map down fs)) ≡ product ps (zip_with ◌+◌ (map up fs) (map down es)) = product_add ps (map up es) (map down fs) due ddf ∙ e ∙ sym (product_add ps (map up fs) (map down es) duf dde) in
      crossed es fs (h ∙ sym k)
      (product_inj ps b (zip_with ◌+◌ (map up es) (map down fs)) (zip_with ◌+◌ (map up fs) (map down es)) (length-zip ◌+◌ (map up es) (map down fs) n due ddf) (length-zip ◌+◌ (map up fs) (map down es) n duf dde) r)
