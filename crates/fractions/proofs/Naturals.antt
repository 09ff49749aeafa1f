-- Natural fractions, and measures of several fractions. Assumes nothing.
use Rattle.std.proofs.Common.{◌≡◌, ℕ, ◌*◌, ◌/◌, ◌≤◌, List, [], ◌∷◌, ◌++◌, sym, ap, ◌∙◌, subst, ap₂, mul-le-mul_right, mul_assoc, mul_comm, one-mul, mul-one, mul_left_comm, arith}
use Prim.Native.Nat.{◌∣◌}
use native.Mathlib.Nat.{mul-mul-mul_comm, eq_of_mul-eq-mul_left, div-mul_cancel}
use Rattle.std.specs.List.{All}
use Rattle.std.proofs.lemmas.List.Elements.{All-nil, All-cons, All-head, All-tail, All-push, All-weaker}
use Rattle.fractions.specs.Fractions.{Fraction, same, AtLeast, mul, inv, Natural}
use Rattle.fractions.specs.Least.{Least, Measures, Measure}
use Rattle.fractions.proofs.Products.{left_pos}
use Rattle.fractions.proofs.Laws.{same_sym, same_refl, mul_same}

ruleset ac = (mul_assoc, mul_comm, mul_left_comm)

pub natural_of : (x : Fraction) (n : ℕ) → x.num ≡ n * x.den → Natural x
natural_of x n e = (n, left_pos n x.den x.num x.num_pos e, mul-one x.num ∙ e)

pub natural_out : (x : Fraction) (n : Natural x) → x.num ≡ n.0 * x.den
natural_out x n = sym (mul-one x.num) ∙ n.2

pub natural_divides : (x : Fraction) → x.den ∣ x.num → Natural x
natural_divides x d = natural_of x (x.num / x.den) (sym (div-mul_cancel x.den d))

natural_same : (x y : Fraction) → same x y → Natural x → Natural y
natural_same x y e n =
    natural_of y n.0
    (eq_of_mul-eq-mul_left x.den x.den_pos y.num (n.0 * y.den)
    (mul_comm x.den y.num ∙ sym e ∙ ap (λ (a : ℕ). a * y.den) (natural_out x n) ∙ (simp ac)))

natural_mul : (x y : Fraction) → Natural x → Natural y → Natural (mul x y)
natural_mul x y n m =
    natural_of (mul x y) (n.0 * m.0)
    (ap₂ ◌*◌ (natural_out x n) (natural_out y m) ∙ mul-mul-mul_comm n.0 x.den m.0 y.den)

-- what makes z natural is at least its inverse
natural_above : (t z : Fraction) → Natural (mul t z) → AtLeast t (inv z)
natural_above t z n =
    let d : ℕ = t.den * z.den in
    let l : 1 * d ≤ n.0 * d = mul-le-mul_right d n.1 in
    let o = one-mul d in
    let e : t.num * z.num ≡ n.0 * d = natural_out (mul t z) n in
    let h : d ≤ t.num * z.num = omega arith in
    subst (λ (a : ℕ). a ≤ t.num * z.num) (mul_comm t.den z.den) h

-- x over z times z over w is x over w
through : (x z w : Fraction) → same (mul (mul (inv w) z) (mul (inv z) x)) (mul (inv w) x)
through x z w = crossed w.den z.num z.den x.num w.num x.den
  where
    crossed : (a b c d e f : ℕ) → ((a * b) * (c * d)) * (e * f) ≡ (a * d) * ((e * c) * (b * f))
    crossed a b c d e f = simp ac

-- what holds of two, of the first, of the second
module _ {X : Type 0} (P : X → Type 0) (x y : X) where
  pub all_two : P x → P y → All P (x ∷ y ∷ [])
  all_two p q = All-cons P x (y ∷ []) p (All-cons P y [] q (All-nil P))

  pub all_first : All P (x ∷ y ∷ []) → P x
  all_first a = All-head P x (y ∷ []) a

  pub all_second : All P (x ∷ y ∷ []) → P y
  all_second a = All-head P y [] (All-tail P x (y ∷ []) a)

all_front : {X : Type 0} (P : X → Type 0) (xs ys : List X) → All P (xs ++ ys) → All P xs
all_front P [] ys a = All-nil P
all_front P (x ∷ xs) ys a = All-cons P x xs (All-head P x (xs ++ ys) a) (all_front P xs ys (All-tail P x (xs ++ ys) a))

all_last : {X : Type 0} (P : X → Type 0) (xs : List X) (y : X) → All P (xs ++ y ∷ []) → P y
all_last P [] y a = All-head P y [] a
all_last P (x ∷ xs) y a = all_last P xs y (All-tail P x (xs ++ y ∷ []) a)

-- a fraction is its own measure
pub measure_one : (x : Fraction) → Measure (x ∷ []) x
measure_one x = record { common = All-cons (Measures x) x [] (natural_of (mul (inv x) x) 1 (mul_comm x.den x.num ∙ sym (one-mul (x.num * x.den)))) (All-nil (Measures x)); greatest = λ k a. All-head (Measures k) x [] a }

-- the measure of a measure and one fraction more
pub measure_more : (xs : List Fraction) (y z w : Fraction) → Measure xs z → Measure (z ∷ y ∷ []) w → Measure (xs ++ y ∷ []) w
measure_more xs y z w m n =
    record {
      common = All-push (Measures w) xs y
          (All-weaker (Measures z) (Measures w)
          (λ x h. natural_same (mul (mul (inv w) z) (mul (inv z) x)) (mul (inv w) x) (through x z w) (natural_mul (mul (inv w) z) (mul (inv z) x) (all_first (Measures w) z y n.common) h))
          xs m.common)
          (all_second (Measures w) z y n.common);
      greatest = λ k a. n.greatest k (all_two (Measures k) z y (m.greatest k (all_front (Measures k) xs (y ∷ []) a)) (all_last (Measures k) xs y a));
    }

-- the inverse of the measure is the least factor
pub measure_least : (xs : List Fraction) (z f : Fraction) → same f (inv z) → Measure xs z → Least xs f
measure_least xs z f e m =
    record {
      makes = All-weaker (Measures z) (λ x. Natural (mul f x))
          (λ x h. natural_same (mul (inv z) x) (mul f x) (mul_same (inv z) f x x (same_sym f (inv z) e) (same_refl x)) h)
          xs m.common;
      least = λ t a. natural_above t (inv f) (natural_same (mul t z) (mul t (inv f)) (mul_same t t z (inv f) (same_refl t) (turned f z e)) (m.greatest (inv t) a));
    }
  where
    turned : (f z : Fraction) → same f (inv z) → same z (inv f)
    turned f z e = mul_comm z.num f.num ∙ e ∙ mul_comm z.den f.den
