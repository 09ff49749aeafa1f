-- Answers that are never equal. Assumes nothing.
use Rattle.std.proofs.Common.{◌≡◌, ℕ, true, false, Some, None, Ok, Err, Option, Result, ap, arith}

pub true_false : true ≡ false → ⊥
true_false e = let z : ◌≡◌ {A = ℕ} 0 1 = cc in omega arith

pub err_ok : {A E : Type 0} (e : E) (x : A) → ◌≡◌ {A = Result A E} (Err e) (Ok x) → ⊥
err_ok e x is = let z : ◌≡◌ {A = ℕ} 0 1 = cc in omega arith

-- what a value and no value are not, and when two values are the same
abbrev given : {A E : Type 0} → A → Result (Option A) E → A
given d (Ok (Some x)) = x
given d (Ok None) = d
given d (Err e) = d

abbrev given_any : {A E : Type 0} → Result (Option A) E → ℕ
given_any (Ok (Some x)) = 1
given_any (Ok None) = 0
given_any (Err e) = 0

pub none_some : {A E : Type 0} {x : A} → ◌≡◌ {A = Result (Option A) E} (Ok None) (Ok (Some x)) → ⊥
none_some e = let z : ◌≡◌ {A = ℕ} 0 1 = ap given_any e in omega arith

pub same_some : {A E : Type 0} {x y : A} → ◌≡◌ {A = Result (Option A) E} (Ok (Some x)) (Ok (Some y)) → x ≡ y
same_some {x = x} e = ap (given x) e
