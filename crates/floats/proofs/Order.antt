-- The order of floats: transitive, total but for not-a-numbers; least and most of two. Assumes nothing.
use Rattle.std.proofs.Common.{◌≡◌, ℕ, zero, suc, ◌*◌, ◌<◌, ◌≤◌, Bool, true, false, not, ◌||◌, T, refl, mul-pos, arith}
use lib.Ieee.{Float, inf, below, level, le, is_nan}
use lib.Ieee.Bits.{is_true, is_false}
use Rattle.std.proofs.lemmas.Bool.Decides.{nat_tests}
use Rattle.std.proofs.lemmas.Float as known
use Rattle.std.specs.Float.{float_min, float_max}
use Rattle.floats.specs.Floats.{proper}

pub no : {P : Type 0} → false ≡ true → P
no e = absurd (grind arith)

-- ±x / p ≤ ±y / q
abbrev pub le_signed : Bool → ℕ → ℕ → Bool → ℕ → ℕ → Bool
le_signed s x p t y q = below s (x * q) t (y * p) || level s (x * q) t (y * p)

pub zero_of : (a d : ℕ) → 0 < d → a * d ≡ 0 → a ≡ 0
zero_of zero d h e = refl
zero_of (suc a) d h e = let l = mul-pos {m = suc a} {n = d} (omega arith) h in absurd (omega arith)

pub pos_le : (x y p q : ℕ) → le_signed false x p false y q ≡ true → x * q ≤ y * p
pos_le x y p q h = grind (arith, nat_tests)

pub le_neg : (x y p q : ℕ) → y * p ≤ x * q → le_signed true x p true y q ≡ true
le_neg x y p q h = grind (arith, nat_tests)

pub le_across : (x y p q : ℕ) → le_signed true x p false y q ≡ true
le_across x y p q = grind (arith, nat_tests)

pub float_trans : (x y z : Float) → le x y ≡ true → le y z ≡ true → le x z ≡ true
float_trans x y z h k = is_true (le x z) (known.le_trans x y z (known.T_from_true (le x y) h) (known.T_from_true (le y z) k))

-- ---- what is no not-a-number
pub left_number : (x y : Float) → le x y ≡ true → is_nan x ≡ false
left_number x y h = is_false (is_nan x) (known.le_left x y (known.T_from_true (le x y) h))

pub right_number : (x y : Float) → le x y ≡ true → is_nan y ≡ false
right_number x y h = is_false (is_nan y) (known.le_right x y (known.T_from_true (le x y) h))

pub proper_number : (x : Float) → proper x ≡ true → is_nan x ≡ false
unfolding is_nan
proper_number x h = grind arith

pub not_nan : (x : Float) → is_nan x ≡ false → T (not (is_nan x))
not_nan x h = known.T_from_false (is_nan x) h

pub le_refl : (x : Float) → is_nan x ≡ false → le x x ≡ true
le_refl x h = is_true (le x x) (known.le_refl x (not_nan x h))

pub le_total : (x y : Float) → is_nan x ≡ false → is_nan y ≡ false → le x y ≡ false → le y x ≡ true
le_total x y p q h = is_true (le y x) (known.le_of_lt y x (known.lt_of_not-le x y (not_nan x p) (not_nan y q) (known.T_from_false (le x y) h)))

pub from_bottom : (x : Float) → is_nan x ≡ false → le (inf true) x ≡ true
unfolding le is_nan
from_bottom x h = grind arith

pub to_top : (x : Float) → is_nan x ≡ false → le x (inf false) ≡ true
unfolding le is_nan
to_top x h = grind arith

-- ---- the least and the most of two
pub least_proper : (x y : Float) → proper x ≡ true → proper y ≡ true → proper (float_min x y) ≡ true
least_proper x y p q = grind arith

pub most_proper : (x y : Float) → proper x ≡ true → proper y ≡ true → proper (float_max x y) ≡ true
most_proper x y p q = grind arith

pub least_left : (x y : Float) → is_nan x ≡ false → is_nan y ≡ false → le (float_min x y) x ≡ true
least_left x y p q = grind (arith, le_refl, le_total)

pub least_right : (x y : Float) → is_nan x ≡ false → is_nan y ≡ false → le (float_min x y) y ≡ true
least_right x y p q = grind (arith, le_refl, le_total)

pub most_left : (x y : Float) → is_nan x ≡ false → is_nan y ≡ false → le x (float_max x y) ≡ true
most_left x y p q = grind (arith, le_refl, le_total)

pub most_right : (x y : Float) → is_nan x ≡ false → is_nan y ≡ false → le y (float_max x y) ≡ true
most_right x y p q = grind (arith, le_refl, le_total)

-- both operations keep the order
pub least_mono : (x v y w : Float) → le x v ≡ true → le y w ≡ true → le (float_min x y) (float_min v w) ≡ true
least_mono x v y w h k =
    let p = left_number x v h in
    let q = left_number y w k in
    let left = float_trans (float_min x y) x v (least_left x y p q) h in
    let right = float_trans (float_min x y) y w (least_right x y p q) k in
    grind (arith, left, right)

pub most_mono : (x v y w : Float) → le x v ≡ true → le y w ≡ true → le (float_max x y) (float_max v w) ≡ true
most_mono x v y w h k =
    let p = right_number x v h in
    let q = right_number y w k in
    let left = float_trans x v (float_max v w) h (most_left v w p q) in
    let right = float_trans y w (float_max v w) k (most_right v w p q) in
    grind (arith, left, right)
