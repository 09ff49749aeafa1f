-- Three readings round a triangle, from the law over runs. Assumes nothing.
use Rattle.std.proofs.Common.{◌≡◌, ℕ, ◌<◌, ◌≤◌, Bool, true, false, not, eqb, List, [], ◌∷◌, Err, Result, sym, refl, ◌∙◌, subst, arith}
use Rattle.steps.specs.Phases.{phases, flips}
use Rattle.steps.specs.declared.phases.Phase.{Phase}
use Rattle.ledger.specs.declared.faults.Fault.{Fault}
use Rattle.ledger.specs.declared.faults.Fault.TheVariants.{NoPoint, Contradiction}
use Rattle.ledger.specs.Ties.{Tie, tied, Satisfies}
use Rattle.ledger.specs.Calls.{more}
use Rattle.ledger.specs.Runs.{Event, pointed, tying, Right}
use Rattle.ledger_cases.proofs.Answered.{tie_made, clash_made, no_point_made, three_made, three_few}

turned : (x : Bool) → x ≡ not x → ⊥
turned true e = let z : ◌≡◌ {A = ℕ} 0 1 = cc in omega arith
turned false e = let z : ◌≡◌ {A = ℕ} 0 1 = cc in omega arith

abbrev pub first : Tie phases
first = tied phases 0 1 false

abbrev pub second : Tie phases
second = tied phases 1 2 true

abbrev pub third : Tie phases
third = tied phases 0 2 false

none : (v : ℕ → Bool) → Satisfies phases v (third ∷ (second ∷ (first ∷ []))) → ⊥
none v s = turned (v 2) (sym s.0 ∙ s.1.1.0 ∙ s.1.0)

module _ (cells : ℕ) (r4 r5 r6 : Result (Unit {0}) Fault) where
  abbrev readings : List (Event phases Phase)
  readings = tying first r4 ∷ (tying second r5 ∷ (tying third r6 ∷ []))

  last_refused : Right phases flips cells 3 [] readings → r6 ≡ Err (Contradiction 0 2)
  last_refused h =
      let one = tie_made phases 3 [] first r4 h.1 ((omega arith, omega arith), omega arith) (λ p. false) (refl, tt) in
      let h1 = subst (λ (ts : List (Tie phases)). Right phases flips cells 3 ts (tying second r5 ∷ (tying third r6 ∷ []))) one h.2 in
      let two = tie_made phases 3 (first ∷ []) second r5 h1.1 ((omega arith, omega arith), omega arith) (λ p. eqb p 2) (refl, (refl, tt)) in
      let h2 = subst (λ (ts : List (Tie phases)). Right phases flips cells 3 ts (tying third r6 ∷ [])) two h1.2 in
      clash_made phases 3 (second ∷ (first ∷ [])) third r6 h2.0 h2.1 ((omega arith, omega arith), omega arith) none

  module _ (r1 r2 r3 : Result ℕ Fault) (h : Right phases flips cells 0 [] (pointed r1 ∷ (pointed r2 ∷ (pointed r3 ∷ readings)))) where
    pub contradicts : 3 ≤ cells → r6 ≡ Err (Contradiction 0 2)
    contradicts room = last_refused (three_made phases flips cells r1 r2 r3 readings h room)

    pub no_third_point : cells < 3 → r6 ≡ Err (NoPoint 0 2)
    no_third_point short =
        let n = three_few phases flips cells r1 r2 r3 readings h short in
        no_point_made phases (more (more (more 0 r1) r2) r3) third r6 h.1.1.1.2.2.0 (λ both. let l = both.1 in omega arith)
