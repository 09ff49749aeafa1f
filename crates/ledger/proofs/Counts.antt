-- How many points a tree has. Assumes nothing.
use Rattle.std.proofs.Common.{◌≡◌, ℕ, zero, suc, ◌+◌, ◌<◌, ◌≤◌, Bool, cond, eqb, sym, refl, ap, ◌∙◌, ⊎_elim, add-one, arith, eq-eqb, ne_eqb}
use Rattle.std.proofs.lemmas.Bool.{cases_eq}
use Rattle.ledger.specs.Trees.{count}

abbrev bit : Bool → ℕ
bit b = cond b 1 0

yes_one : (x r : ℕ) → x ≡ r → ◌≡◌ {A = ℕ} (cond (eqb x r) 1 0) 1
yes_one x r e = ap bit (eq-eqb x r e)

no_one : (x r : ℕ) → (x ≡ r → ⊥) → ◌≡◌ {A = ℕ} (cond (eqb x r) 1 0) 0
no_one x r n = ap bit (ne_eqb x r n)

-- two trees have no more points than there are
pub count_two : (f : ℕ → ℕ) (r s n : ℕ) → (r ≡ s → ⊥) → count f r n + count f s n ≤ n
count_two f r s zero ne = omega arith
count_two f r s (suc n) ne =
    let ih = count_two f r s n ne in
    ⊎_elim
    (λ (e : f n ≡ r). let a = yes_one (f n) r e in let b = no_one (f n) s (λ q. ne (sym e ∙ q)) in omega arith)
    (λ (d : f n ≡ r → ⊥). let a = no_one (f n) r d in ⊎_elim (λ (e : f n ≡ s). let b = yes_one (f n) s e in omega arith) (λ (d' : f n ≡ s → ⊥). let b = no_one (f n) s d' in omega arith) (cases_eq (f n) s))
    (cases_eq (f n) r)

pub count_one : (f : ℕ → ℕ) (r n : ℕ) → count f r n ≤ n
count_one f r zero = omega arith
count_one f r (suc n) =
    let ih = count_one f r n in
    ⊎_elim (λ (e : f n ≡ r). let b = yes_one (f n) r e in omega arith) (λ (d : f n ≡ r → ⊥). let b = no_one (f n) r d in omega arith) (cases_eq (f n) r)

pub count_same : (f f' : ℕ → ℕ) (r n : ℕ) → ((p : ℕ) → p < n → f' p ≡ f p) → count f' r n ≡ count f r n
count_same f f' r zero e = refl
count_same f f' r (suc n) e =
    let ih = count_same f f' r n (λ p h. e p (omega arith)) in
    let b = ap (λ (y : ℕ). bit (eqb y r)) (e n (omega arith)) in
    omega arith

pub count_more : (f : ℕ → ℕ) (r n : ℕ) → count f r n ≤ count f r (n + 1)
count_more f r n = let e = ap (count f r) (add-one n) in omega arith

pub count_last : (f : ℕ → ℕ) (r n : ℕ) → f n ≡ r → 1 ≤ count f r (n + 1)
count_last f r n e = let b = yes_one (f n) r e in let d = ap (count f r) (add-one n) in omega arith

module _ (f f' : ℕ → ℕ) (from to : ℕ) (ne : from ≡ to → ⊥) where
  -- the tree that is moved to has the points of both
  pub count_moved : (n : ℕ) → ((p : ℕ) → p < n → f p ≡ from → f' p ≡ to) → ((p : ℕ) → p < n → (f p ≡ from → ⊥) → f' p ≡ f p) → count f from n + count f to n ≤ count f' to n
  count_moved zero there stays = omega arith
  count_moved (suc n) there stays =
      let ih = count_moved n (λ p h. there p (omega arith)) (λ p h. stays p (omega arith)) in
      ⊎_elim
      (λ (e : f n ≡ from). let a = yes_one (f n) from e in let b = no_one (f n) to (λ q. ne (sym e ∙ q)) in let d = yes_one (f' n) to (there n (omega arith) e) in omega arith)
      (λ (x : f n ≡ from → ⊥). let a = no_one (f n) from x in let b = ap (λ (y : ℕ). bit (eqb y to)) (stays n (omega arith) x) in omega arith)
      (cases_eq (f n) from)

  -- and another has those that it had
  pub count_kept : (r n : ℕ) → (r ≡ from → ⊥) → ((p : ℕ) → p < n → f p ≡ from → f' p ≡ to) → ((p : ℕ) → p < n → (f p ≡ from → ⊥) → f' p ≡ f p) → count f r n ≤ count f' r n
  count_kept r zero nr there stays = omega arith
  count_kept r (suc n) nr there stays =
      let ih = count_kept r n nr (λ p h. there p (omega arith)) (λ p h. stays p (omega arith)) in
      ⊎_elim
      (λ (e : f n ≡ from). let a = no_one (f n) r (λ q. nr (sym q ∙ e)) in omega arith)
      (λ (x : f n ≡ from → ⊥). let b = ap (λ (y : ℕ). bit (eqb y r)) (stays n (omega arith) x) in omega arith)
      (cases_eq (f n) from)
