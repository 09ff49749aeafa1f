-- The test of the factor table, carried to each row. Assumes nothing.
use Rattle.std.proofs.Common.{◌≡◌, ℕ, zero, suc, ◌+◌, ◌-◌, ◌*◌, ◌<◌, ◌≤◌, Bool, ◌&&◌, T, eqb, leb, List, [], ◌∷◌, map, length, get_or, ℤ, nat_abs, sym, ap, ◌∙◌, subst, add-zero, add-suc, suc-add, arith, eqb→eq, leb→le}
use borrow.Author.Differences.{up, down}
use Rattle.fractions.specs.Fractions.{same, whole}
use Rattle.steps.specs.Kind.{limit}
use Rattle.fractions.specs.Powers.{product, left_of, right_of, size}
use Rattle.fractions.specs.Exponents.{norm}
use Rattle.rates.specs.Listed.{listed, largest_factor, largest_tie}
use Rattle.rates.specs.Factors.{short, row, tabled}
use Rattle.rates.specs.Rates.{rate}
use Rattle.rates.specs.Calls.{IsFactor, Factor}
use Rattle.rates.specs.declared.rate.RateStep.{RateStep}
use Rattle.rates.proofs.Worth.{size_rate}

rows_at : (n : ℕ) (rows : List (List ℤ)) → T (tabled n rows) → (i : ℕ) (z : List ℤ) → i < length rows → T (row (n + i) (get_or rows i z))
rows_at n [] t i z h = absurd (omega arith)
rows_at n (es ∷ rows) t zero z h = subst (λ (m : ℕ). T (row m es)) (sym (add-zero n)) (left_of (row n es) (tabled (suc n) rows) t)
rows_at n (es ∷ rows) t (suc i) z h =
    subst (λ (m : ℕ). T (row m (get_or rows i z))) (suc-add n i ∙ sym (add-suc n i))
    (rows_at (suc n) rows (right_of (row n es) (tabled (suc n) rows) t) i z (omega arith))

short_is : (es : List ℤ) → T (short es) → norm es ≤ largest_tie
unfolding norm
short_is [] t = omega arith
short_is (e ∷ es) t =
    let a : nat_abs e ≤ largest_tie = leb→le (nat_abs e) largest_tie (left_of (leb (nat_abs e) largest_tie) (short es) t) in
    let b : norm es ≤ largest_tie = short_is es (right_of (leb (nat_abs e) largest_tie) (short es) t) in
    omega arith

-- what the test says of a row
pub record Row (n : ℕ) (es : List ℤ) : Type 0 where
  pub full : length es ≡ length listed
  pub means : (h : 0 < n) → same (rate es) (whole n h)
  pub small : norm es ≤ largest_tie

row_is : (n : ℕ) (es : List ℤ) → T (row n es) → Row n es
row_is n es t =
    let all : Bool = eqb (length es) (length listed) in
    let top : Bool = eqb (product listed (map up es)) n in
    let bottom : Bool = eqb (product listed (map down es)) 1 in
    let r : T (top && (bottom && short es)) = right_of all (top && (bottom && short es)) t in
    let s : T (bottom && short es) = right_of top (bottom && short es) r in
    let u : product listed (map up es) ≡ n = eqb→eq (product listed (map up es)) n (left_of top (bottom && short es) r) in
    let d : product listed (map down es) ≡ 1 = eqb→eq (product listed (map down es)) 1 (left_of bottom (short es) s) in
    record {
      full = eqb→eq (length es) (length listed) (left_of all (top && (bottom && short es)) t);
      means = λ h. ap (λ (x : ℕ). x * 1) u ∙ ap (λ (x : ℕ). n * x) (sym d);
      small = short_is es (right_of bottom (short es) s);
    }

-- row n, counted from 1
pub row_of : (rows : List (List ℤ)) → T (tabled 1 rows) → (n : ℕ) (z : List ℤ) → 0 < n → n ≤ length rows → Row n (get_or rows (n - 1) z)
row_of rows t n z h k =
    let i : ℕ = n - 1 in
    let s : 1 + i ≡ n = omega arith in
    row_is n (get_or rows i z) (subst (λ (m : ℕ). T (row m (get_or rows i z))) s (rows_at 1 rows t i z (omega arith)))

module _ (rows : List (List ℤ)) (t : T (tabled 1 rows)) (l : length rows ≡ largest_factor) (n : ℕ) (f : IsFactor n) where
  -- the row of a factor is no larger than steps may be
  pub row_within : norm (get_or rows (n - 1) []) ≤ limit
  row_within =
      let r = row_of rows t n [] f.0 (omega arith) in
      let s = r.small in
      omega arith

  -- and the step that it makes is that of the factor
  pub row_factor : (s : RateStep) → s.exponents ≡ get_or rows (n - 1) [] → Factor n s
  row_factor s e =
      let r = row_of rows t n [] f.0 (omega arith) in
      let k = r.small in
      let m : size listed (rate (get_or rows (n - 1) [])) ≡ norm (get_or rows (n - 1) []) = size_rate (get_or rows (n - 1) []) r.full in
      let p : size listed (rate (get_or rows (n - 1) [])) ≤ largest_tie = omega arith in
      record {
        is = f;
        means = subst (λ (es : List ℤ). same (rate es) (whole n f.0)) (sym e) (r.means f.0);
        ties = subst (λ (es : List ℤ). size listed (rate es) ≤ largest_tie) (sym e) p;
      }
