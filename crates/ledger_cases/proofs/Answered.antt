-- What single calls of a run answer. Assumes nothing.
use Rattle.std.proofs.Common.{◌≡◌, ℕ, ◌+◌, ◌<◌, ◌≤◌, List, [], ◌∷◌, Ok, Err, Result, refl, ap, subst, ⊎_elim, arith}
use Rattle.std.proofs.lemmas.Bool.{cases_lt}
use Rattle.steps.specs.Kind.{Kind}
use Rattle.ledger.specs.declared.faults.Fault.{Fault}
use Rattle.ledger.specs.declared.faults.Fault.TheVariants.{Full, NoPoint, TooLarge, Contradiction}
use Rattle.ledger.specs.Limits.{capacity}
use Rattle.ledger.specs.Ties.{Tie, Satisfies}
use Rattle.ledger.specs.Runs.{Event, pointed, Right}
use Rattle.ledger.specs.Calls.{Both, PointAnswer, more, TieChecks, Past, TieVerdict, after}

point_made : (cells n : ℕ) (r : Result ℕ Fault) → PointAnswer cells n r → n < capacity cells → more n r ≡ n + 1
point_made cells n (Ok k) x h = refl
point_made cells n (Err e) x h = let is = x.next.1 h in absurd (let z : ◌≡◌ {A = ℕ} 0 1 = cc in omega arith)

-- there are never more points than the memory has room for
few : (cells n : ℕ) (r : Result ℕ Fault) → PointAnswer cells n r → n ≤ capacity cells → more n r ≤ capacity cells
few cells n (Ok k) x h =
    ⊎_elim (λ (l : n < capacity cells). omega arith) (λ (l : capacity cells ≤ n). let is = x.full.1 l in absurd (omega arith)) (cases_lt n (capacity cells))
few cells n (Err e) x h = h

module _ (K : Kind) (n : ℕ) (ts : List (Tie K)) (t : Tie K) where
  pub tie_made : (r : Result (Unit {0}) Fault) → TieVerdict K n ts t r → Past K n t → (v : ℕ → K.Element) → Satisfies K v (t ∷ ts) → after K ts t r ≡ t ∷ ts
  tie_made r x past v s = ap (after K ts t) ((x.accepted past).1 (v, s))

  pub clash_made : (r : Result (Unit {0}) Fault) → TieChecks K n t r → TieVerdict K n ts t r → Past K n t → ((v : ℕ → K.Element) → Satisfies K v (t ∷ ts) → ⊥) → r ≡ Err (Contradiction t.left t.right)
  clash_made (Ok u) x y past none = let is = (y.clash past).1 none in absurd (omega arith)
  clash_made (Err Full) x y past none = let is = (y.clash past).1 none in absurd (omega arith)
  clash_made (Err (NoPoint a b)) x y past none = let is = (y.clash past).1 none in absurd (omega arith)
  clash_made (Err (TooLarge a b)) x y past none = let is = (y.clash past).1 none in absurd (omega arith)
  clash_made (Err (Contradiction a b)) x y past none = let e = x.names refl in λ i. Err (Contradiction (e i).0 (e i).1)

pub no_point_made : (K : Kind) (n : ℕ) (t : Tie K) (r : Result (Unit {0}) Fault) → TieChecks K n t r → (Both n t.left t.right → ⊥) → r ≡ Err (NoPoint t.left t.right)
no_point_made K n t (Ok u) x none = let is = x.outside.1 none in absurd (omega arith)
no_point_made K n t (Err Full) x none = let is = x.outside.1 none in absurd (omega arith)
no_point_made K n t (Err (NoPoint a b)) x none = let e = x.names refl in λ i. Err (NoPoint (e i).0 (e i).1)
no_point_made K n t (Err (TooLarge a b)) x none = let is = x.outside.1 none in absurd (omega arith)
no_point_made K n t (Err (Contradiction a b)) x none = let is = x.outside.1 none in absurd (omega arith)

pub large_made : (K : Kind) (n : ℕ) (t : Tie K) (r : Result (Unit {0}) Fault) → TieChecks K n t r → Both n t.left t.right → K.most < K.size t.by → r ≡ Err (TooLarge t.left t.right)
large_made K n t (Ok u) x both big = let is = (x.large both).1 big in absurd (omega arith)
large_made K n t (Err Full) x both big = let is = (x.large both).1 big in absurd (omega arith)
large_made K n t (Err (NoPoint a b)) x both big = let is = (x.large both).1 big in absurd (omega arith)
large_made K n t (Err (TooLarge a b)) x both big = let e = x.names refl in λ i. Err (TooLarge (e i).0 (e i).1)
large_made K n t (Err (Contradiction a b)) x both big = let is = (x.large both).1 big in absurd (omega arith)

-- three points, and what follows them
module _ (K : Kind) {S : Type 0} (mean : S → K.Element) (cells : ℕ) (r1 r2 r3 : Result ℕ Fault) (es : List (Event K S)) (w : Right K mean cells 0 [] (pointed r1 ∷ (pointed r2 ∷ (pointed r3 ∷ es)))) where
  pub three_made : 3 ≤ cells → Right K mean cells 3 [] es
  three_made room =
      let w1 = subst (λ (n : ℕ). Right K mean cells n [] (pointed r2 ∷ (pointed r3 ∷ es))) (point_made cells 0 r1 w.0 (omega arith)) w.1 in
      let w2 = subst (λ (n : ℕ). Right K mean cells n [] (pointed r3 ∷ es)) (point_made cells 1 r2 w1.0 (omega arith)) w1.1 in
      subst (λ (n : ℕ). Right K mean cells n [] es) (point_made cells 2 r3 w2.0 (omega arith)) w2.1

  pub three_few : cells < 3 → more (more (more 0 r1) r2) r3 < 3
  three_few short =
      let n1 = few cells 0 r1 w.0 (omega arith) in
      let n2 = few cells (more 0 r1) r2 w.1.0 n1 in
      let n3 = few cells (more (more 0 r1) r2) r3 w.1.1.0 n2 in
      omega arith
