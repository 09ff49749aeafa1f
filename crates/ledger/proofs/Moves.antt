-- A tree that is moved point by point. Assumes nothing.
use Rattle.std.proofs.Common.{◌≡◌, ℕ, ◌+◌, ◌≤◌, sym, refl, ◌∙◌, subst, arith, below_more}
use Rattle.steps.specs.Kind.{Kind}
use Rattle.ledger.specs.Trees.{Movable, Moved}

-- the points below i have been moved
pub record Midway (K : Kind) (i : ℕ) (root : ℕ → ℕ) (step : ℕ → K.Element) (root' : ℕ → ℕ) (step' : ℕ → K.Element) (from to : ℕ) (by : K.Element) : Type 0 where
  pub done : Moved K i root step root' step' from to by
  pub rest_root : (p : ℕ) → i ≤ p → root' p ≡ root p
  pub rest_step : (p : ℕ) → i ≤ p → step' p ≡ step p

module _ {K : Kind} {root : ℕ → ℕ} {step : ℕ → K.Element} {from to : ℕ} {by : K.Element} where
  pub start : Midway K 0 root step root step from to by
  start = record {
    done = record { there = λ p h. absurd (omega arith); along = λ p h. absurd (omega arith); stays = λ p h. absurd (omega arith); keeps = λ p h. absurd (omega arith) };
    rest_root = λ p h. refl;
    rest_step = λ p h. refl;
  }

  pub hit : {i : ℕ} {root' : ℕ → ℕ} {step' : ℕ → K.Element} (root'' : ℕ → ℕ) (step'' : ℕ → K.Element) → Midway K i root step root' step' from to by → root i ≡ from → root'' i ≡ to → K.same (step'' i) (K.mul (step i) by) → ((p : ℕ) → (p ≡ i → ⊥) → root'' p ≡ root' p) → ((p : ℕ) → (p ≡ i → ⊥) → step'' p ≡ step' p) → Midway K (i + 1) root step root'' step'' from to by
  hit {i} {root'} {step'} root'' step'' m is new_root new_step same_roots same_steps = record {
    done = record {
      there = below_more (λ p. root p ≡ from → root'' p ≡ to) i (λ p h e. same_roots p (omega arith) ∙ m.done.there p h e) (λ e. new_root);
      along = below_more (λ p. root p ≡ from → K.same (step'' p) (K.mul (step p) by)) i (λ p h e. subst (λ (x : K.Element). K.same x (K.mul (step p) by)) (sym (same_steps p (omega arith))) (m.done.along p h e)) (λ e. new_step);
      stays = below_more (λ p. (root p ≡ from → ⊥) → root'' p ≡ root p) i (λ p h n. same_roots p (omega arith) ∙ m.done.stays p h n) (λ n. absurd (n is));
      keeps = below_more (λ p. (root p ≡ from → ⊥) → step'' p ≡ step p) i (λ p h n. same_steps p (omega arith) ∙ m.done.keeps p h n) (λ n. absurd (n is));
    };
    rest_root = λ p h. same_roots p (omega arith) ∙ m.rest_root p (omega arith);
    rest_step = λ p h. same_steps p (omega arith) ∙ m.rest_step p (omega arith);
  }

  pub miss : {i : ℕ} {root' : ℕ → ℕ} {step' : ℕ → K.Element} → Midway K i root step root' step' from to by → (root i ≡ from → ⊥) → Midway K (i + 1) root step root' step' from to by
  miss {i} {root'} {step'} m isnt = record {
    done = record {
      there = below_more (λ p. root p ≡ from → root' p ≡ to) i m.done.there (λ e. absurd (isnt e));
      along = below_more (λ p. root p ≡ from → K.same (step' p) (K.mul (step p) by)) i m.done.along (λ e. absurd (isnt e));
      stays = below_more (λ p. (root p ≡ from → ⊥) → root' p ≡ root p) i m.done.stays (λ n. m.rest_root i (omega arith));
      keeps = below_more (λ p. (root p ≡ from → ⊥) → step' p ≡ step p) i m.done.keeps (λ n. m.rest_step i (omega arith));
    };
    rest_root = λ p h. m.rest_root p (omega arith);
    rest_step = λ p h. m.rest_step p (omega arith);
  }

-- the same, where no step that is made is too large
pub record Partly (K : Kind) (n i : ℕ) (root : ℕ → ℕ) (step : ℕ → K.Element) (root' : ℕ → ℕ) (step' : ℕ → K.Element) (from to : ℕ) (by : K.Element) : Type 0 where
  pub part : Movable K n root step from by → Midway K i root step root' step' from to by
