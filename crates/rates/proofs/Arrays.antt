-- What calls at each place give of an array. Assumes nothing.
use Rattle.std.proofs.Common.{◌≡◌, ℕ, zero, suc, ◌+◌, ◌<◌, List, [], ◌∷◌, map, length, get_or, sym, refl, ◌∙◌, subst, ap₂, arith}
use denote.Param.Members.{Mut, Called}
use Rattle.std.specs.Array.{IsFromFnResult, IsFromFnResultFrom}
use Rattle.std.proofs.lemmas.List.{ext_get_or, get_or-map, length-map}
use Rattle.fractions.specs.Exponents.{zip_with}

module _ {F B : Type 0} (g : Mut F (ℕ × Unit {0}) B) (P : ℕ → B → Type 0) (ys : List B) (d : B) where
  -- calls that leave the function as it was, at each of n indices from i on
  at_indices_from : (f : F) → ((i : ℕ) (r : B) (q : F) → Called g f (i, tt) r q → (q ≡ f) × P i r) → (i n : ℕ) → IsFromFnResultFrom g f ys i n → (j : ℕ) → j < n → P (i + j) (get_or ys (i + j) d)
  at_indices_from f calls i zero r j h = absurd (omega arith)
  at_indices_from f calls i (suc n) r zero h =
      let e : i ≡ i + 0 = omega arith in
      subst (λ (m : ℕ). P m (get_or ys m d)) e (subst (P i) (sym (r.2.1 d)) (calls i r.1 r.0 r.3).1)
  at_indices_from f calls i (suc n) r (suc j) h =
      let e : i + 1 + j ≡ i + suc j = omega arith in
      subst (λ (m : ℕ). P m (get_or ys m d)) e (at_indices_from f calls (i + 1) n (subst (λ (q : F). IsFromFnResultFrom g q ys (i + 1) n) (calls i r.1 r.0 r.3).0 r.4) j (omega arith))

  pub at_indices : (f : F) → ((i : ℕ) (r : B) (q : F) → Called g f (i, tt) r q → (q ≡ f) × P i r) → (n : ℕ) → IsFromFnResult g f ys n → (i : ℕ) → i < n → P i (get_or ys i d)
  at_indices f calls n r i h = let e : 0 + i ≡ i = omega arith in subst (λ (m : ℕ). P m (get_or ys m d)) e (at_indices_from f calls 0 n r.each i h)

-- the same value at each place
pub zip_with_is : {A B C : Type 0} (f : A → B → C) (a : A) (b : B) (c : C) (xs : List A) (ys : List B) (zs : List C) → length ys ≡ length xs → length zs ≡ length xs → ((i : ℕ) → i < length xs → get_or zs i c ≡ f (get_or xs i a) (get_or ys i b)) → zs ≡ zip_with f xs ys
zip_with_is f a b c [] ys [] h k e = refl
zip_with_is f a b c [] ys (z ∷ zs) h k e = absurd (omega arith)
zip_with_is f a b c (x ∷ xs) [] zs h k e = absurd (omega arith)
zip_with_is f a b c (x ∷ xs) (y ∷ ys) [] h k e = absurd (omega arith)
zip_with_is f a b c (x ∷ xs) (y ∷ ys) (z ∷ zs) h k e =
    ap₂ (λ v vs. v ∷ vs) (e 0 (omega arith)) (zip_with_is f a b c xs ys zs (omega arith) (omega arith) (λ i l. e (suc i) (omega arith)))

pub map_is : {A B : Type 0} (f : A → B) (a : A) (b : B) (xs : List A) (ys : List B) → length ys ≡ length xs → ((i : ℕ) → i < length xs → get_or ys i b ≡ f (get_or xs i a)) → ys ≡ map f xs
map_is f a b xs ys h e =
    let k = length-map xs f in
    ext_get_or b ys (map f xs) (omega arith) (λ i s. e i (omega arith) ∙ sym (get_or-map f xs i a b (omega arith)))
