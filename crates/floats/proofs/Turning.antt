-- Whole numbers turned real keep their order, and are proper floats. Assumes nothing.
use Rattle.std.proofs.Common.{◌≡◌, ℕ, zero, suc, ◌+◌, ◌*◌, ◌^◌, ◌≤◌, Bool, true, false, cond, not, ltb, ℤ, pos, negsuc, sym, refl, ap, ◌∙◌, one-mul, zero-mul, arith}
use lib.Signed.{le_z}
use lib.Ieee.{Float, Format, nan, inf, fin, up, down, low, prec, emax, odd, units, round, neg, le, of_int, binary64}
use lib.Ieee.Bits.{is_true}
use lib.Ieee.Fits.{down_pos}
use lib.Ieee.Order.{round_mono}
use Rattle.std.proofs.lemmas.Bool.Decides.{nat_tests}
use Rattle.floats.specs.Floats.{proper}
use Rattle.floats.proofs.Order.{no, pos_le, le_neg, le_across}

-- ---- the other sign
odd_mirror : (d q k l : ℕ) → odd d true q k l ≡ neg (odd d false q k l)
unfolding odd neg
odd_mirror d zero k l = refl
odd_mirror d (suc q) k l = refl

units_mirror : (f : Format) (q k : ℕ) → units f true q k ≡ neg (units f false q k)
unfolding units neg
units_mirror f q k = go (ltb (q * 2 ^ k) (2 ^ (low f + suc (emax f))))
  where
    go : (b : Bool) → cond b (odd (suc (prec f)) true q k (low f)) (inf true) ≡ neg (cond b (odd (suc (prec f)) false q k (low f)) (inf false))
    go true = odd_mirror (suc (prec f)) q k (low f)
    go false = refl

round_mirror : (f : Format) (a b : ℕ) → round f true a b ≡ neg (round f false a b)
unfolding round
round_mirror f a b = units_mirror f _ _

abbrev pub plain : Float → Bool
plain nan = false
plain (inf s) = not s
plain (fin s m e) = not s

odd_plain : (d q k l : ℕ) → plain (odd d false q k l) ≡ true
unfolding odd
odd_plain d zero k l = refl
odd_plain d (suc q) k l = refl

units_plain : (f : Format) (q k : ℕ) → plain (units f false q k) ≡ true
unfolding units
units_plain f q k = go (ltb (q * 2 ^ k) (2 ^ (low f + suc (emax f))))
  where
    go : (b : Bool) → plain (cond b (odd (suc (prec f)) false q k (low f)) (inf false)) ≡ true
    go true = odd_plain (suc (prec f)) q k (low f)
    go false = refl

pub round_plain : (f : Format) (a b : ℕ) → plain (round f false a b) ≡ true
unfolding round
round_plain f a b = units_plain f _ _

-- ---- the order under the other sign
le_mirror : (x y : Float) → plain x ≡ true → plain y ≡ true → le x y ≡ true → le (neg y) (neg x) ≡ true
unfolding le neg
le_mirror x y p q h = grind (arith, le_neg, pos_le)

le_between : (x y : Float) → plain x ≡ true → plain y ≡ true → le (neg x) y ≡ true
unfolding le neg
le_between x y p q = grind (arith, le_across)

rises : (a b : ℕ) → a ≤ b → le (round binary64 false a 1) (round binary64 false b 1) ≡ true
rises a b h = is_true _ (round_mono binary64 a 1 b 1 (omega arith) (omega arith) (omega arith))

pub int_mono : (x y : ℤ) → le_z x y ≡ true → le (of_int binary64 x) (of_int binary64 y) ≡ true
unfolding of_int
int_mono (pos a) (pos b) h = rises a b (grind (arith, nat_tests))
int_mono (pos a) (negsuc b) h = no h
int_mono (negsuc a) (pos b) h = rw round_mirror (le_between (round binary64 false (suc a) 1) (round binary64 false b 1) (round_plain binary64 (suc a) 1) (round_plain binary64 b 1))
int_mono (negsuc a) (negsuc b) h =
    let c : suc b ≤ suc a = grind (arith, nat_tests) in
    let r : le (neg (round binary64 false (suc a) 1)) (neg (round binary64 false (suc b) 1)) ≡ true = le_mirror (round binary64 false (suc b) 1) (round binary64 false (suc a) 1) (round_plain binary64 (suc b) 1) (round_plain binary64 (suc a) 1) (rises (suc b) (suc a) c) in
    (λ i. le (round_mirror binary64 (suc a) 1 i) (round_mirror binary64 (suc b) 1 i)) ∙ r

-- ---- no -0
pub plain_proper : (x : Float) → plain x ≡ true → proper x ≡ true
plain_proper x p = grind arith

one : round binary64 false 1 1 ≡ fin false 1 (pos 0)
unfolding round
one = refl

not_zero : (x : Float) → plain x ≡ true → le (fin false 1 (pos 0)) x ≡ true → proper (neg x) ≡ true
unfolding le neg
not_zero nan p h = no p
not_zero (inf s) p h = refl
not_zero (fin true m e) p h = no p
not_zero (fin false zero e) p h =
    let l = pos_le (1 * 1) (zero * up e) 1 (down e) h in
    let z = zero-mul (up e) in
    let d = down_pos e in
    absurd (omega (arith, ap (λ n. n * 1) z, one-mul (down e)))
not_zero (fin false (suc m) e) p h = grind (arith, nat_tests)

pub int_proper : (x : ℤ) → proper (of_int binary64 x) ≡ true
unfolding of_int
int_proper (pos n) = plain_proper (round binary64 false n 1) (round_plain binary64 n 1)
int_proper (negsuc n) = ap proper (round_mirror binary64 (suc n) 1) ∙ not_zero (round binary64 false (suc n) 1) (round_plain binary64 (suc n) 1) (ap (λ (v : Float). le v (round binary64 false (suc n) 1)) (sym one) ∙ rises 1 (suc n) (omega arith))
