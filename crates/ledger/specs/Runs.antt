-- Runs of calls, and the law over them. Assumes nothing.
use Rattle.std.specs.Prelude.{◌≡◌, ◌≢◌, ℕ, Bool, true, List, [], ◌∷◌, length, Ok, Option, Result}
use Rattle.steps.specs.Kind.{Kind}
use Rattle.ledger.specs.declared.faults.Fault.{Fault}
use Rattle.ledger.specs.Ties.{Tie}
use Rattle.ledger.specs.Tells.{Contents}
use Rattle.ledger.specs.Calls.{PointAnswer, more, TieChecks, TieVerdict, after, AskChecks, AskVerdict, told, Pointed, Tying, Asking}

-- a call with what it answered; an ask with its place before and after
pub data Event (K : Kind) (S : Type 0) : Type 0 where
  pointed : Result ℕ Fault → Event K S
  tying : Tie K → Result (Unit {0}) Fault → Event K S
  between : ℕ → ℕ → Result (Option S) Fault → Event K S
  asking : ℕ → ℕ → S → S → Result Bool Fault → Event K S

module _ (K : Kind) {S : Type 0} (mean : S → K.Element) where
  -- a call, as its contract has it
  abbrev pub Call : Contents S → Event K S → Contents S → Type 0
  Call s (pointed r) s' = Pointed K mean s r s'
  Call s (tying t r) s' = Tying K mean s t r s'
  Call s (between a b r) s' = Asking K mean s a b r s'
  Call s (asking a b out out' r) s' = Asking K mean s a b (told r out') s' × (r ≢ Ok true → out' ≡ out)

  -- the calls es, one after the other, lead from s to s'
  abbrev pub Run : Contents S → List (Event K S) → Contents S → Type 0
  Run s [] s' = s ≡ s'
  Run s (e ∷ es) s' = (m : Contents S) × Call s e m × Run m es s'

  -- each answer is the right one, where n points were made and the ties ts accepted before it
  abbrev pub Right : ℕ → ℕ → List (Tie K) → List (Event K S) → Type 0
  Right cells n ts [] = Unit {0}
  Right cells n ts (pointed r ∷ es) = PointAnswer cells n r × Right cells (more n r) ts es
  Right cells n ts (tying t r ∷ es) = TieChecks K n t r × TieVerdict K n ts t r × Right cells n (after K ts t r) es
  Right cells n ts (between a b r ∷ es) = AskChecks n a b r × AskVerdict K mean n ts a b r × Right cells n ts es
  Right cells n ts (asking a b out out' r ∷ es) = AskChecks n a b r × AskVerdict K mean n ts a b (told r out') × Right cells n ts es

  -- every run from s answers rightly, refusals included
  abbrev pub Law : Contents S → Type 0
  Law s = (es : List (Event K S)) (s' : Contents S) → Run s es s' → Right (length s.cells) 0 [] es
