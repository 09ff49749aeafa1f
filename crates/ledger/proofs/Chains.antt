-- Chains of ties. Assumes nothing.
use Rattle.std.proofs.Common.{◌≡◌, ℕ, ◌<◌, ◌≤◌, List, [], ◌∷◌, ◌++◌, sym, refl, ap, ◌∙◌, subst, inl, inr, arith}
use Rattle.steps.specs.Kind.{Kind}
use Rattle.ledger.specs.Ties.{Tie, Within, Joins, Chain, Linked}

module _ (K : Kind) where
  chain_more : (t : Tie K) (ts : List (Tie K)) (ms : List ℕ) (p q : ℕ) → Chain K ts p ms q → Chain K (t ∷ ts) p ms q
  chain_more t ts [] p q c = c
  chain_more t ts (m ∷ ms) p q c = (inr c.0, chain_more t ts ms m q c.1)

  pub linked_more : (t : Tie K) (ts : List (Tie K)) (p q : ℕ) → Linked K ts p q → Linked K (t ∷ ts) p q
  linked_more t ts p q l = (l.0, chain_more t ts l.0 p q l.1)

  chain_join : (ts : List (Tie K)) (ms ms' : List ℕ) (p q r : ℕ) → Chain K ts p ms q → Chain K ts q ms' r → Chain K ts p (ms ++ ms') r
  chain_join ts [] ms' p q r c d = subst (λ (x : ℕ). Chain K ts x ms' r) (sym c) d
  chain_join ts (m ∷ ms) ms' p q r c d = (c.0, chain_join ts ms ms' m q r c.1 d)

  pub linked_join : (ts : List (Tie K)) (p q r : ℕ) → Linked K ts p q → Linked K ts q r → Linked K ts p r
  linked_join ts p q r l k = (l.0 ++ k.0, chain_join ts l.0 k.0 p q r l.1 k.1)

  pub linked_step : (ts : List (Tie K)) (p q : ℕ) → Joins K ts p q → Linked K ts p q
  linked_step ts p q j = (q ∷ [], (j, refl))

  pub linked_self : (ts : List (Tie K)) (p q : ℕ) → p ≡ q → Linked K ts p q
  linked_self ts p q e = ([], e)

  -- what the ends of each tie have in common, the ends of a chain have
  chain_same : (f : ℕ → ℕ) (ts : List (Tie K)) → ((p q : ℕ) → Joins K ts p q → f p ≡ f q) → (ms : List ℕ) (p q : ℕ) → Chain K ts p ms q → f p ≡ f q
  chain_same f ts j [] p q c = ap f c
  chain_same f ts j (m ∷ ms) p q c = j p m c.0 ∙ chain_same f ts j ms m q c.1

  pub linked_same : (f : ℕ → ℕ) (ts : List (Tie K)) → ((p q : ℕ) → Joins K ts p q → f p ≡ f q) → (p q : ℕ) → Linked K ts p q → f p ≡ f q
  linked_same f ts j p q l = chain_same f ts j l.0 p q l.1

  pub joins_within : (n : ℕ) (ts : List (Tie K)) → Within K n ts → (p q : ℕ) → Joins K ts p q → (p < n) × (q < n)
  joins_within n [] w p q j = absurd j
  joins_within n (t ∷ ts) w p q (inl (inl e)) = (subst (λ (x : ℕ). x < n) e.0 w.0.0, subst (λ (x : ℕ). x < n) e.1 w.0.1)
  joins_within n (t ∷ ts) w p q (inl (inr e)) = (subst (λ (x : ℕ). x < n) e.1 w.0.1, subst (λ (x : ℕ). x < n) e.0 w.0.0)
  joins_within n (t ∷ ts) w p q (inr j) = joins_within n ts w.1 p q j

  chain_within : (n : ℕ) (ts : List (Tie K)) → Within K n ts → (ms : List ℕ) (p q : ℕ) → p < n → Chain K ts p ms q → q < n
  chain_within n ts w [] p q h c = subst (λ (x : ℕ). x < n) c h
  chain_within n ts w (m ∷ ms) p q h c = chain_within n ts w ms m q (joins_within n ts w p m c.0).1 c.1

  -- a chain from a point leads to points
  pub linked_within : (n : ℕ) (ts : List (Tie K)) → Within K n ts → (p q : ℕ) → p < n → Linked K ts p q → q < n
  linked_within n ts w p q h l = chain_within n ts w l.0 p q h l.1

  chain_outside : (n : ℕ) (ts : List (Tie K)) → Within K n ts → (ms : List ℕ) (p q : ℕ) → (p < n → ⊥) → Chain K ts p ms q → p ≡ q
  chain_outside n ts w [] p q h c = c
  chain_outside n ts w (m ∷ ms) p q h c = absurd (h (joins_within n ts w p m c.0).0)

  -- and one from elsewhere to itself alone
  pub linked_outside : (n : ℕ) (ts : List (Tie K)) → Within K n ts → (p q : ℕ) → (p < n → ⊥) → Linked K ts p q → p ≡ q
  linked_outside n ts w p q h l = chain_outside n ts w l.0 p q h l.1

  pub within_more : (n m : ℕ) (ts : List (Tie K)) → n ≤ m → Within K n ts → Within K m ts
  within_more n m [] h w = tt
  within_more n m (t ∷ ts) h w =
      let a = w.0.0 in
      let b = w.0.1 in
      ((omega arith, omega arith), within_more n m ts h w.1)

  -- a function that is the same at the ends of each tie of a list, and of one more
  pub joins_more : (f : ℕ → ℕ) (t : Tie K) (ts : List (Tie K)) → f t.left ≡ f t.right → ((p q : ℕ) → Joins K ts p q → f p ≡ f q) → (p q : ℕ) → Joins K (t ∷ ts) p q → f p ≡ f q
  joins_more f t ts x j p q (inl (inl e)) = ap f (sym e.0) ∙ x ∙ ap f e.1
  joins_more f t ts x j p q (inl (inr e)) = ap f (sym e.1) ∙ sym x ∙ ap f e.0
  joins_more f t ts x j p q (inr k) = j p q k
