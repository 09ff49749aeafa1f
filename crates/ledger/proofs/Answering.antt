-- From what the code does to what the calls answer. Assumes nothing.
use Rattle.std.proofs.Common.{◌≡◌, ℕ, ◌+◌, ◌<◌, ◌≤◌, List, ◌∷◌, length, set, Some, None, Ok, Err, Option, Result, sym, refl, subst, arith}
use Rattle.std.proofs.Math.Logic.{∥∥₁_map}
use Rattle.std.proofs.lemmas.List.{length-set}
use Rattle.steps.specs.Kind.{Kind, Lawful}
use Rattle.ledger.specs.declared.cells.Cell.{Cell}
use Rattle.ledger.specs.declared.faults.Fault.{Fault}
use Rattle.ledger.specs.declared.faults.Fault.TheVariants.{Contradiction}
use Rattle.ledger.specs.Limits.{most_points}
use Rattle.ledger.specs.Ties.{Tie, tied, Holds, Satisfies, Linked}
use Rattle.ledger.specs.Tells.{Contents, holding, Tells, TellsSome}
use Rattle.ledger.specs.Calls.{Exactly, Both, after, TieChecks, TieVerdict, AskVerdict, Pointed, Tying, Asking}
use Rattle.ledger.proofs.Apart.{true_false, err_ok, none_some, same_some}
use Rattle.ledger.proofs.Grown.{Tied, Clashes}
use Rattle.ledger.proofs.Views.{cell, at_set_same}
use Rattle.ledger.proofs.Unused.{tells_same}
use Rattle.ledger.proofs.Points.{new_point}
use Rattle.ledger.proofs.Telling.{tells_point, tells_tie}

module _ (K : Kind) {S : Type 0} (mean : S → K.Element) where
  -- a ledger that tells of some ties does so after a call
  pub some_pointed : (s : Contents S) (r : Result ℕ Fault) (s' : Contents S) → Pointed K mean s r s' → ∥ TellsSome K mean s ∥₁ → ∥ TellsSome K mean s' ∥₁
  some_pointed s r s' x some = ∥∥₁_map some (λ w. (w.0, x.tells w.0 w.1))

  pub some_tied : (s : Contents S) (t : Tie K) (r : Result (Unit {0}) Fault) (s' : Contents S) → Tying K mean s t r s' → ∥ TellsSome K mean s ∥₁ → ∥ TellsSome K mean s' ∥₁
  some_tied s t r s' x some = ∥∥₁_map some (λ w. (after K w.0 t r, x.tells w.0 w.1))

  module _ (cs : List (Cell S)) (n : ℕ) (a b : ℕ) (g : K.Element) where
    tying_refused : (e : Fault) → TieChecks K n (tied K a b g) (Err e) → ((ts : List (Tie K)) → Tells K mean (holding cs n) ts → TieVerdict K n ts (tied K a b g) (Err e)) → Tying K mean (holding cs n) (tied K a b g) (Err e) (holding cs n)
    tying_refused e checks verdict = record { refused = λ _. refl; room = refl; len = refl; checks = checks; verdict = verdict; tells = λ ts t. t }

    module _ (p : Both n a b) (hg : K.size g ≤ K.most) where
      pub tying_clash : ((ts : List (Tie K)) → Tells K mean (holding cs n) ts → Clashes K mean cs n a b g) → Tying K mean (holding cs n) (tied K a b g) (Err (Contradiction a b)) (holding cs n)
      tying_clash x =
          tying_refused (Contradiction a b)
          (record { outside = (λ e. absurd (omega arith), λ no. absurd (no p)); large = λ _. (λ e. absurd (omega arith), λ l. absurd (omega arith)); names = λ e. refl })
          (λ ts t. record {
            clash = λ _. (λ e v s. x ts t v (t.only v s.1) s.0, λ e. refl);
            accepted = λ _. (λ e. absurd (err_ok _ _ e), λ w. absurd (x ts t w.0 (t.only w.0 w.1.1) w.1.0));
          })

      pub tying_ok : (cs' : List (Cell S)) → length cs' ≡ length cs → ((ts : List (Tie K)) → Tells K mean (holding cs n) ts → Tied K mean cs n cs' a b g) → Tying K mean (holding cs n) (tied K a b g) (Ok tt) (holding cs' n)
      tying_ok cs' long does = record {
        refused = λ e. absurd (true_false e);
        room = long;
        len = refl;
        checks = record {
          outside = (λ e. absurd (omega arith), λ no. absurd (no p));
          large = λ _. (λ e. absurd (omega arith), λ l. absurd (omega arith));
          names = λ e. absurd (true_false e);
        };
        verdict = λ ts t.
            let x = does ts t in
            let v = x.some.0 in
            let s : Satisfies K v (tied K a b g ∷ ts) = (x.ties v x.some.1, t.says v (x.back v x.some.1)) in
            record {
              clash = λ _. (λ e. absurd (omega arith), λ none. absurd (none v s));
              accepted = λ _. (λ e. (v, s), λ e. refl);
            };
        tells = λ ts t. tells_tie K mean cs n ts t cs' a b g p.0 p.1 (does ts t);
      }

  module _ (s : Contents S) (a b : ℕ) (p : Both s.len a b) where
    asking : (r : Option S) → ((ts : List (Tie K)) → Tells K mean s ts → AskVerdict K mean s.len ts a b (Ok r)) → Asking K mean s a b (Ok r) s
    asking r verdict = record {
      unchanged = refl;
      checks = record { outside = (λ e. absurd (omega arith), λ no. absurd (no p)); names = λ e. absurd (true_false e) };
      verdict = verdict;
    }

    pub asking_no : ((ts : List (Tie K)) → Tells K mean s ts → Linked K ts a b → ⊥) → Asking K mean s a b (Ok None) s
    asking_no none =
        asking None
        (λ ts t. record {
          yes = λ _. (λ x. absurd (none_some x.1), λ l. absurd (none ts t l));
          no = λ _. (λ e. none ts t, λ e. refl);
          step = λ x e. absurd (none_some e);
        })

    pub asking_yes : (x : S) → ((ts : List (Tie K)) → Tells K mean s ts → Linked K ts a b) → ((ts : List (Tie K)) → Tells K mean s ts → (g : K.Element) → Exactly (K.same (mean x) g) ((v : ℕ → K.Element) → Satisfies K v ts → Holds K v (tied K a b g))) → Asking K mean s a b (Ok (Some x)) s
    asking_yes x joined ties =
        asking (Some x)
        (λ ts t. record {
          yes = λ _. (λ e. joined ts t, λ e. (x, refl));
          no = λ _. (λ e. absurd (none_some (sym e)), λ none. absurd (none (joined ts t)));
          step = λ y e. subst (λ (z : S). (g : K.Element) → Exactly (K.same (mean z) g) ((v : ℕ → K.Element) → Satisfies K v ts → Holds K v (tied K a b g))) (same_some e) (ties ts t);
        })

  pub pointed_ok : (cs : List (Cell S)) (n : ℕ) → Lawful K → (u : S) → n < length cs → n < most_points → K.same (mean u) K.one → Pointed K mean (holding cs n) (Ok n) (holding (set cs n (cell n u)) (n + 1))
  pointed_ok cs n L u room few unit =
      let long = length-set cs n (cell n u) in
      let own = at_set_same (λ (c : Cell S). c.root) 0 cs n (cell n u) room in
      let step = at_set_same (λ (c : Cell S). mean c.step) K.one cs n (cell n u) room in
      record {
        refused = λ e. absurd (true_false e);
        room = long;
        len = refl;
        answer = record { full = (λ e. absurd (omega arith), λ e. absurd (omega arith)); next = (λ e. omega arith, λ e. refl); names = refl };
        tells = λ ts t.
            let t' = tells_same K mean cs n (cell n u) ts t in
            tells_point K mean (set cs n (cell n u)) n ts t' (new_point K L mean (set cs n (cell n u)) n t'.kept (omega arith) few own (rw step unit));
      }

  -- a ledger that tells of some ties does so with a point more
  pub some_point : (cs : List (Cell S)) (n : ℕ) → Lawful K → (u : S) → n < length cs → n < most_points → K.same (mean u) K.one → ∥ TellsSome K mean (holding cs n) ∥₁ → ∥ TellsSome K mean (holding (set cs n (cell n u)) (n + 1)) ∥₁
  some_point cs n L u room few unit = some_pointed _ _ _ (pointed_ok cs n L u room few unit)
