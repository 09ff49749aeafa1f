-- What each call of a ledger answers, and what the ledger then holds. Assumes nothing.
use Rattle.std.specs.Prelude.{◌≡◌, ℕ, ◌+◌, ◌<◌, ◌≤◌, Bool, true, false, List, [], ◌∷◌, length, is_ok, Ok, Err, Some, None, Result, Option}
use Rattle.steps.specs.Kind.{Kind}
use Rattle.ledger.specs.declared.cells.Cell.{Cell}
use Rattle.ledger.specs.declared.faults.Fault.{Fault}
use Rattle.ledger.specs.Faults.{code, named}
use Rattle.ledger.specs.Limits.{capacity}
use Rattle.ledger.specs.Ties.{Tie, tied, Holds, Satisfies, Linked}
use Rattle.ledger.specs.Tells.{Contents, holding, Tells}

abbrev pub Exactly : Type 0 → Type 0 → Type 0
Exactly P Q = (P → Q) × (Q → P)

-- both are among the first n points
abbrev pub Both : ℕ → ℕ → ℕ → Type 0
Both n a b = (a < n) × (b < n)

-- point, where there are n points
pub record PointAnswer (cells n : ℕ) (r : Result ℕ Fault) : Type 0 where
  -- 4 exactly when the memory or 512 is reached
  pub full : Exactly (code r ≡ 4) (capacity cells ≤ n)
  -- else the number of the new point
  pub next : Exactly (r ≡ Ok n) (n < capacity cells)
  pub names : named r ≡ (0, 0)

-- how many points there are after it
abbrev pub more : ℕ → Result ℕ Fault → ℕ
more n (Ok k) = n + 1
more n (Err e) = n

-- tie, where there are n points, whatever was tied before
pub record TieChecks (K : Kind) (n : ℕ) (t : Tie K) (r : Result (Unit {0}) Fault) : Type 0 where
  -- 5 exactly when one of the two is no point
  pub outside : Exactly (code r ≡ 5) (Both n t.left t.right → ⊥)
  -- else 7 exactly when the step is too large
  pub large : Both n t.left t.right → Exactly (code r ≡ 7) (K.most < K.size t.by)
  -- a refusal names the two
  pub names : is_ok r ≡ false → named r ≡ (t.left, t.right)

-- the tie is past 5 and 7
abbrev pub Past : (K : Kind) → ℕ → Tie K → Type 0
Past K n t = Both n t.left t.right × (K.size t.by ≤ K.most)

-- a tie past these checks, where the ties ts were accepted before: these ties, by name, where the type of a ledger says only that it tells of some
pub record TieVerdict (K : Kind) (n : ℕ) (ts : List (Tie K)) (t : Tie K) (r : Result (Unit {0}) Fault) : Type 0 where
  -- 11 exactly when no values satisfy it and every accepted tie
  pub clash : Past K n t → Exactly (code r ≡ 11) ((v : ℕ → K.Element) → Satisfies K v (t ∷ ts) → ⊥)
  -- accepted exactly when some values do
  pub accepted : Past K n t → Exactly (r ≡ Ok tt) ((v : ℕ → K.Element) × Satisfies K v (t ∷ ts))

-- the ties that are accepted after it
abbrev pub after : (K : Kind) → List (Tie K) → Tie K → Result (Unit {0}) Fault → List (Tie K)
after K ts t (Ok u) = t ∷ ts
after K ts t (Err e) = ts

-- between and ask, where there are n points, whatever was tied before
pub record AskChecks {A : Type 0} (n a b : ℕ) (r : Result A Fault) : Type 0 where
  -- 5 exactly when one of the two is no point
  pub outside : Exactly (code r ≡ 5) (Both n a b → ⊥)
  -- a refusal names the two
  pub names : is_ok r ≡ false → named r ≡ (a, b)

-- what ask tells, as the step or none: its answer, with what is then in the place
abbrev pub told : {S : Type 0} → Result Bool Fault → S → Result (Option S) Fault
told (Ok true) out = Ok (Some out)
told (Ok false) out = Ok None
told (Err e) out = Err e

-- of any kind and meaning: what follows knows nothing of the trait that has them
module _ (K : Kind) {S : Type 0} (mean : S → K.Element) where
  -- between, and what an ask tells, where the ties ts were accepted before
  pub record AskVerdict (n : ℕ) (ts : List (Tie K)) (a b : ℕ) (r : Result (Option S) Fault) : Type 0 where
    -- whether a chain of ties joins the points
    pub yes : Both n a b → Exactly ((s : S) × (r ≡ Ok (Some s))) (Linked K ts a b)
    pub no : Both n a b → Exactly (r ≡ Ok None) (Linked K ts a b → ⊥)
    -- then the step is the one that ties a to b whatever values satisfy the ties
    pub step : (s : S) → r ≡ Ok (Some s) → (g : K.Element) → Exactly (K.same (mean s) g) ((v : ℕ → K.Element) → Satisfies K v ts → Holds K v (tied K a b g))

  -- the calls: the ledger holds s before and s' after
  pub record Made (cs : List (Cell S)) (s : Contents S) : Type 0 where
    pub empty : s ≡ holding cs 0
    pub tells : Tells K mean s []

  pub record Pointed (s : Contents S) (r : Result ℕ Fault) (s' : Contents S) : Type 0 where
    pub refused : is_ok r ≡ false → s' ≡ s
    pub room : length s'.cells ≡ length s.cells
    pub len : s'.len ≡ more s.len r
    pub answer : PointAnswer (length s.cells) s.len r
    pub tells : (ts : List (Tie K)) → Tells K mean s ts → Tells K mean s' ts

  pub record Tying (s : Contents S) (t : Tie K) (r : Result (Unit {0}) Fault) (s' : Contents S) : Type 0 where
    pub refused : is_ok r ≡ false → s' ≡ s
    pub room : length s'.cells ≡ length s.cells
    pub len : s'.len ≡ s.len
    pub checks : TieChecks K s.len t r
    pub verdict : (ts : List (Tie K)) → Tells K mean s ts → TieVerdict K s.len ts t r
    pub tells : (ts : List (Tie K)) → Tells K mean s ts → Tells K mean s' (after K ts t r)

  pub record Asking (s : Contents S) (a b : ℕ) (r : Result (Option S) Fault) (s' : Contents S) : Type 0 where
    pub unchanged : s' ≡ s
    pub checks : AskChecks s.len a b r
    pub verdict : (ts : List (Tie K)) → Tells K mean s ts → AskVerdict s.len ts a b r
