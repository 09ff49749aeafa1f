-- Three conversions round a ring, from the law over runs. Assumes nothing.
use Rattle.std.proofs.Common.{◌≡◌, ℕ, zero, suc, ◌<◌, ◌≤◌, List, [], ◌∷◌, Ok, Err, Result, ap, subst, ⊎_elim, arith}
use Rattle.std.proofs.lemmas.Bool.{cases_lt}
use Rattle.ledger.specs.declared.faults.Fault.{Fault}
use Rattle.ledger.specs.declared.faults.Fault.TheVariants.{NoPoint}
use Rattle.ledger.specs.Ties.{Tie, tied, Holds, Satisfies}
use Rattle.ledger.specs.Calls.{more, Past, after}
use Rattle.ledger.specs.Runs.{Event, pointed, tying, Right}
use Rattle.fractions.specs.Fractions.{Fraction, same, mul, inv, one}
use Rattle.fractions.proofs.Laws.{same_refl, same_sym, same_trans, mul_same, assoc, comm, unit_left, inverse, cancel}
use Rattle.rates.specs.Rates.{rates, worth}
use Rattle.rates.specs.declared.rate.RateStep.{RateStep}
use Rattle.ledger_cases.specs.Rings.{Small, Closes, LastOfThree}
use Rattle.ledger_cases.proofs.Answered.{tie_made, clash_made, large_made, no_point_made, three_made, three_few}

module _ (f g h : Fraction) where
  abbrev pub first : Tie rates
  first = tied rates 1 0 f

  abbrev pub second : Tie rates
  second = tied rates 2 1 g

  abbrev pub third : Tie rates
  third = tied rates 2 0 h

  -- rates with those of the points 0, 1 and 2 at 1, x and y
  rated : Fraction → Fraction → ℕ → Fraction
  rated x y zero = one
  rated x y (suc zero) = x
  rated x y (suc (suc p)) = y

  unit_right : (x : Fraction) → same x (mul x one)
  unit_right x = same_trans x (mul one x) (mul x one) (same_sym (mul one x) x (unit_left x)) (comm one x)

  -- y is g times y over g
  undone : (x y : Fraction) → same y (mul x (mul (inv x) y))
  undone x y =
      same_sym (mul x (mul (inv x) y)) y
      (same_trans (mul x (mul (inv x) y)) (mul (mul x (inv x)) y) y (same_sym (mul (mul x (inv x)) y) (mul x (mul (inv x) y)) (assoc x (inv x) y))
      (same_trans (mul (mul x (inv x)) y) (mul one y) y (mul_same (mul x (inv x)) one y y (same_trans (mul x (inv x)) (mul (inv x) x) one (comm x (inv x)) (inverse x)) (same_refl y)) (unit_left y)))

  first_fits : (y : Fraction) → Holds rates (rated f y) first
  unfolding rated
  first_fits y = unit_right f

  second_fits : Holds rates (rated f (mul g f)) second
  unfolding rated
  second_fits = same_refl (mul g f)

  second_alone : (y : Fraction) → Holds rates (rated (mul (inv g) y) y) second
  unfolding rated
  second_alone y = undone g y

  third_fits : (x y : Fraction) → same h y → Holds rates (rated x y) third
  unfolding rated
  third_fits x y e = same_trans y h (mul h one) (same_sym h y e) (unit_right h)

  -- values that fit all three say that h is g times f
  fit_says : (v : ℕ → Fraction) → Satisfies rates v (third ∷ (second ∷ (first ∷ []))) → same h (mul g f)
  fit_says v s =
      cancel h (mul g f) (v 0)
      (same_trans (mul h (v 0)) (v 2) (mul (mul g f) (v 0)) (same_sym (v 2) (mul h (v 0)) s.0)
      (same_trans (v 2) (mul g (v 1)) (mul (mul g f) (v 0)) s.1.0
      (same_trans (mul g (v 1)) (mul g (mul f (v 0))) (mul (mul g f) (v 0)) (mul_same g g (v 1) (mul f (v 0)) (same_refl g) s.1.1.0) (same_sym (mul (mul g f) (v 0)) (mul g (mul f (v 0))) (assoc g f (v 0))))))

  module _ (cells : ℕ) (r4 r5 r6 : Result (Unit {0}) Fault) where
    abbrev conversions : List (Event rates RateStep)
    conversions = tying first r4 ∷ (tying second r5 ∷ (tying third r6 ∷ []))

    -- what is right of the last conversion, after the ties ts
    abbrev Last : List (Tie rates) → Type 0
    Last ts = Right rates worth cells 3 ts (tying third r6 ∷ [])

    abbrev LastTwo : List (Tie rates) → Type 0
    LastTwo ts = Right rates worth cells 3 ts (tying second r5 ∷ (tying third r6 ∷ []))

    module _ (w : Right rates worth cells 3 [] conversions) where
      first_taken : Small f → LastTwo (first ∷ [])
      first_taken sf = subst LastTwo (tie_made rates 3 [] first r4 w.1 ((omega arith, omega arith), sf) (rated f f) (first_fits f, tt)) w.2

      first_left : rates.most < rates.size f → LastTwo []
      first_left big = subst LastTwo (ap (after rates [] first) (large_made rates 3 first r4 w.0 (omega arith, omega arith) big)) w.2

    second_left : (ts : List (Tie rates)) → LastTwo ts → rates.most < rates.size g → Last ts
    second_left ts w big = subst Last (ap (after rates ts second) (large_made rates 3 second r5 w.0 (omega arith, omega arith) big)) w.2

    second_taken : (ts : List (Tie rates)) → LastTwo ts → Small g → (v : ℕ → Fraction) → Satisfies rates v (second ∷ ts) → Last (second ∷ ts)
    second_taken ts w sg v s = subst Last (tie_made rates 3 ts second r5 w.1 ((omega arith, omega arith), sg) v s) w.2

    last_taken : (ts : List (Tie rates)) → Last ts → Small h → (v : ℕ → Fraction) → Satisfies rates v (third ∷ ts) → r6 ≡ Ok tt
    last_taken ts w sh v s = (w.1.accepted ((omega arith, omega arith), sh)).1 (v, s)

    last_closes : Last (second ∷ (first ∷ [])) → Small h → Closes f g h r6
    last_closes w sh =
        let ends : Past rates 3 third = ((omega arith, omega arith), sh) in
        let fits : same h (mul g f) → r6 ≡ Ok tt = λ e. last_taken (second ∷ (first ∷ [])) w sh (rated f (mul g f)) (third_fits f (mul g f) e, (second_fits, (first_fits (mul g f), tt))) in
        record {
          accepted = (λ e. (let x = (w.1.accepted ends).0 e in fit_says x.0 x.1), fits);
          refused = (
            λ e k. let is = fits k in let z : ◌≡◌ {A = ℕ} 0 1 = cc in omega arith,
            λ n. clash_made rates 3 (second ∷ (first ∷ [])) third r6 w.0 w.1 ends (λ v s. n (fit_says v s)),
          );
        }

    -- where the second conversion is all that was kept, or the first, or none
    second_only : LastTwo [] → Small h → r6 ≡ Ok tt
    second_only w sh =
        ⊎_elim
        (λ (big : rates.most < rates.size g). last_taken [] (second_left [] w big) sh (rated h h) (third_fits h h (same_refl h), tt))
        (λ (sg : rates.size g ≤ rates.most).
        let v : ℕ → Fraction = rated (mul (inv g) h) h in
        last_taken (second ∷ []) (second_taken [] w sg v (second_alone h, tt)) sh v (third_fits (mul (inv g) h) h (same_refl h), (second_alone h, tt)))
        (cases_lt rates.most (rates.size g))

    first_only : LastTwo (first ∷ []) → rates.most < rates.size g → Small h → r6 ≡ Ok tt
    first_only w big sh = last_taken (first ∷ []) (second_left (first ∷ []) w big) sh (rated f h) (third_fits f h (same_refl h), (first_fits h, tt))

    stays_open : Right rates worth cells 3 [] conversions → Small h → (Small f → Small g → ⊥) → r6 ≡ Ok tt
    stays_open w sh not =
        ⊎_elim
        (λ (big : rates.most < rates.size f). second_only (first_left w big) sh)
        (λ (sf : rates.size f ≤ rates.most).
        ⊎_elim
        (λ (big : rates.most < rates.size g). first_only (first_taken w sf) big sh)
        (λ (sg : rates.size g ≤ rates.most). absurd (not sf sg))
        (cases_lt rates.most (rates.size g)))
        (cases_lt rates.most (rates.size f))

    module _ (r1 r2 r3 : Result ℕ Fault) (w : Right rates worth cells 0 [] (pointed r1 ∷ (pointed r2 ∷ (pointed r3 ∷ conversions)))) where
      with_room : 3 ≤ cells → Right rates worth cells 3 [] conversions
      with_room = three_made rates worth cells r1 r2 r3 conversions w

      no_third_point : cells < 3 → r6 ≡ Err (NoPoint 2 0)
      no_third_point short =
          let n = three_few rates worth cells r1 r2 r3 conversions w short in
          no_point_made rates (more (more (more 0 r1) r2) r3) third r6 w.1.1.1.2.2.0 (λ both. let l = both.0 in omega arith)

      pub last_of_three : LastOfThree cells f g h r6
      last_of_three =
          record {
            short = no_third_point;
            large = λ room big. large_made rates 3 third r6 (with_room room).2.2.0 (omega arith, omega arith) (not_small h big);
            unclosed = λ room sh not. stays_open (with_room room) sh not;
            ring = λ room sf sg sh.
                let kept : LastTwo (first ∷ []) = first_taken (with_room room) sf in
                last_closes (second_taken (first ∷ []) kept sg (rated f (mul g f)) (second_fits, (first_fits (mul g f), tt))) sh;
          }
        where
          not_small : (x : Fraction) → (Small x → ⊥) → rates.most < rates.size x
          not_small x n = ⊎_elim (λ (big : rates.most < rates.size x). big) (λ (s : rates.size x ≤ rates.most). absurd (n s)) (cases_lt rates.most (rates.size x))
