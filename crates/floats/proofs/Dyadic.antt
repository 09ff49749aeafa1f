-- Whole numbers over powers of two are floats exactly. Assumes nothing.
use Rattle.std.proofs.Common.{◌≡◌, ℕ, zero, suc, ◌+◌, ◌-◌, ◌*◌, ◌^◌, ◌<◌, ◌≤◌, Bool, true, false, cond, eqb, ℤ, pos, negsuc, nat_abs, sym, refl, ap, ◌∙◌, lt_of_lt_of_le, mul_assoc, mul_comm, mul-pos, zero-mul, mul-one, arith, pow_pos, pow_mono, pow-add, shl_lt}
use lib.Ieee.{Float, nan, inf, fin, up, down, unlike, round, div, of_int, binary64}
use lib.Ieee.Fits.{down_pos}
use lib.Ieee.Digits.{back}
use lib.Ieee.Exact.{HasValue, round_exact}
use lib.Ieee.Back.{round_whole}
use lib.Ieee.Scale.{round_same}
use Rattle.std.proofs.lemmas.Bool.Decides.{nat_tests}
use Rattle.floats.specs.Floats.{proper, dyadic, Exactly}
use Rattle.floats.proofs.Turning.{round_plain, plain_proper}

exact : (s : Bool) (n b : ℕ) → n < 2 ^ 53 → b ≤ 1074 → HasValue (round binary64 s n (2 ^ b)) s n (2 ^ b)
exact s n b h k =
    round_exact binary64 s n (2 ^ b) n (1074 - b) (pow_pos b) h
    (lt_of_lt_of_le (shl_lt 53 (1074 - b) h) (pow_mono {i = 53 + (1074 - b)} {j = 2098} (omega arith)))
    (ap (λ (m : ℕ). n * m) (ap (λ (m : ℕ). 2 ^ m) (sym (back 1074 b k)) ∙ pow-add 2 (1074 - b) b) ∙ sym (mul_assoc n (2 ^ (1074 - b)) (2 ^ b)))

pub dyadic_exact : (a : ℤ) (b : ℕ) → nat_abs a < 2 ^ 53 → b ≤ 1074 → Exactly (dyadic a b) a (2 ^ b)
unfolding dyadic
dyadic_exact (pos n) b h k = exact false n b h k
dyadic_exact (negsuc n) b h k = exact true (suc n) b h k

-- a negative number is no zero
below_zero : (x : Float) (n c : ℕ) → HasValue x true (suc n) c → proper x ≡ true
below_zero nan n c v = absurd v
below_zero (inf s) n c v = absurd v
below_zero (fin t zero e) n c v =
    let none : zero * up e * c ≡ 0 = ap (λ (m : ℕ). m * c) (zero-mul (up e)) ∙ zero-mul c in
    let some = mul-pos {m = suc n} {n = down e} (omega arith) (down_pos e) in
    absurd (omega (arith, v.1))
below_zero (fin true (suc m) e) n c v = grind (arith, nat_tests)
below_zero (fin false (suc m) e) n c v = refl

pub dyadic_proper : (a : ℤ) (b : ℕ) → nat_abs a < 2 ^ 53 → b ≤ 1074 → proper (dyadic a b) ≡ true
unfolding dyadic
dyadic_proper (pos n) b h k = plain_proper (round binary64 false n (2 ^ b)) (round_plain binary64 n (2 ^ b))
dyadic_proper (negsuc n) b h k = below_zero (round binary64 true (suc n) (2 ^ b)) n (2 ^ b) (exact true (suc n) b h k)

-- ---- the quotient of two whole floats
unlike_plus : (s t : Bool) → t ≡ false → unlike s t ≡ s
unlike_plus true true h = sym h
unlike_plus false true h = h
unlike_plus true false h = refl
unlike_plus false false h = refl

cross : (p q a b d e : ℕ) → p * 1 ≡ a * e → q * 1 ≡ b * d → p * d * b ≡ a * (q * e)
cross p q a b d e h k =
    let p_is : p ≡ a * e = sym (mul-one p) ∙ h in
    let q_is : q ≡ b * d = sym (mul-one q) ∙ k in
    ap (λ (m : ℕ). m * d * b) p_is
    ∙ mul_assoc (a * e) d b
    ∙ mul_assoc a e (d * b)
    ∙ ap (λ (m : ℕ). a * m) (mul_comm e (d * b) ∙ ap (λ (m : ℕ). m * e) (mul_comm d b ∙ sym q_is))

pick : {X : Type 0} (b : Bool) (x y : X) → b ≡ false → cond b x y ≡ y
pick b x y h = ap (λ (c : Bool). cond c x y) h

quotient : (x y : Float) (s : Bool) (a b : ℕ) → 0 < b → HasValue x s a 1 → HasValue y false b 1 → div binary64 x y ≡ round binary64 s a b
unfolding div
quotient nan y s a b h v w = absurd v
quotient (inf t) y s a b h v w = absurd v
quotient (fin t m e) nan s a b h v w = absurd w
quotient (fin t m e) (inf u) s a b h v w = absurd w
quotient (fin t m e) (fin u zero d) s a b h v w =
    let none : zero * up d * 1 ≡ 0 = ap (λ (n : ℕ). n * 1) (zero-mul (up d)) in
    let some = mul-pos {m = b} {n = down d} h (down_pos d) in
    absurd (omega (arith, w.1))
quotient (fin t m e) (fin u (suc n) d) s a b h v w =
    let some = mul-pos {m = b} {n = down d} h (down_pos d) in
    let bottom : 0 < suc n * up d = omega (arith, w.1) in
    pick (eqb (suc n) 0) _ _ (grind (arith, nat_tests))
    ∙ ap (λ (r : Bool). round binary64 r (m * up e * down d) (suc n * up d * down e)) (unlike_plus t u w.0 ∙ v.0)
    ∙ round_same binary64 s (m * up e * down d) (suc n * up d * down e) a b (mul-pos bottom (down_pos e)) h (cross (m * up e) (suc n * up d) a b (down d) (down e) v.1 w.1)

whole_power : (b : ℕ) → b ≤ 53 → HasValue (of_int binary64 (pos (2 ^ b))) false (2 ^ b) 1
unfolding of_int
whole_power b h = round_whole binary64 false (2 ^ b) (pow_mono h)

pub dyadic_quotient : (a : ℤ) (b : ℕ) → nat_abs a ≤ 2 ^ 53 → b ≤ 53 → div binary64 (of_int binary64 a) (of_int binary64 (pos (2 ^ b))) ≡ dyadic a b
unfolding of_int dyadic
dyadic_quotient (pos n) b h k = quotient (round binary64 false n 1) (of_int binary64 (pos (2 ^ b))) false n (2 ^ b) (pow_pos b) (round_whole binary64 false n h) (whole_power b k)
dyadic_quotient (negsuc n) b h k = quotient (round binary64 true (suc n) 1) (of_int binary64 (pos (2 ^ b))) true (suc n) (2 ^ b) (pow_pos b) (round_whole binary64 true (suc n) h) (whole_power b k)
