-- What the ledger tells of after each call. Assumes nothing.
use Rattle.std.proofs.Common.{◌≡◌, ℕ, ◌+◌, ◌<◌, List, [], ◌∷◌, refl, ap, inl, inr, arith, below_more}
use Rattle.steps.specs.Kind.{Kind}
use Rattle.ledger.specs.declared.cells.Cell.{Cell}
use Rattle.ledger.specs.Trees.{roots}
use Rattle.ledger.specs.Ties.{Tie, tied, Joins, Linked}
use Rattle.ledger.specs.Tells.{holding, Tells}
use Rattle.ledger.proofs.Grown.{Point, Tied, From}
use Rattle.ledger.proofs.Chains.{linked_more, linked_join, linked_step, linked_self, linked_same, joins_within, linked_within, linked_outside, within_more, joins_more}

module _ (K : Kind) {S : Type 0} (mean : S → K.Element) where
  -- at first, nothing
  pub tells_none : (cs : List (Cell S)) → Tells K mean (holding cs 0) []
  tells_none cs = record {
    kept = record {
      room = omega arith;
      few = omega arith;
      sound = record { inside = λ p h. absurd (omega arith); top = λ p h. absurd (omega arith); still = λ p h. absurd (omega arith); near = λ p q h. absurd (omega arith) };
    };
    within = tt;
    says = λ v f. tt;
    only = λ v s p h. absurd (omega arith);
    linked = λ p q h. absurd (omega arith);
    joined = λ p q h. absurd (omega arith);
  }

  module _ (cs : List (Cell S)) (n : ℕ) (ts : List (Tie K)) (tells : Tells K mean (holding cs n) ts) where
    same_root : (p q : ℕ) → Joins K ts p q → roots cs p ≡ roots cs q
    same_root p q j = let w = joins_within K n ts tells.within p q j in tells.joined p q w.0 w.1 (linked_step K ts p q j)

    module _ (x : Point K mean cs n) where
      point_linked : (p : ℕ) → p < n + 1 → (q : ℕ) → q < n + 1 → roots cs p ≡ roots cs q → Linked K ts p q
      point_linked =
          below_more (λ p. (q : ℕ) → q < n + 1 → roots cs p ≡ roots cs q → Linked K ts p q) n
          (λ p hp. below_more (λ q. roots cs p ≡ roots cs q → Linked K ts p q) n
          (λ q hq. tells.linked p q hp hq)
          (λ e. let i = tells.kept.sound.inside p hp in let o = x.own in absurd (omega arith)))
          (below_more (λ q. roots cs n ≡ roots cs q → Linked K ts n q) n
          (λ q hq e. let i = tells.kept.sound.inside q hq in let o = x.own in absurd (omega arith))
          (λ e. linked_self K ts n n refl))

      point_joined : (p : ℕ) → p < n + 1 → (q : ℕ) → q < n + 1 → Linked K ts p q → roots cs p ≡ roots cs q
      point_joined =
          below_more (λ p. (q : ℕ) → q < n + 1 → Linked K ts p q → roots cs p ≡ roots cs q) n
          (λ p hp q _ l. tells.joined p q hp (linked_within K n ts tells.within p q hp l) l)
          (λ q _ l. ap (roots cs) (linked_outside K n ts tells.within n q (λ h. omega arith) l))

      pub tells_point : Tells K mean (holding cs (n + 1)) ts
      tells_point = record {
        kept = x.kept;
        within = within_more K n (n + 1) ts (omega arith) tells.within;
        says = λ v f. tells.says v (λ p h. f p (omega arith));
        only = λ v s. x.on v (tells.only v s);
        linked = λ p q hp hq e. point_linked p hp q hq e;
        joined = λ p q hp hq l. point_joined p hp q hq l;
      }

    module _ (cs' : List (Cell S)) (a b : ℕ) (g : K.Element) (ha : a < n) (hb : b < n) (x : Tied K mean cs n cs' a b g) where
      tie_linked : (p q : ℕ) → p < n → q < n → From cs a b p q → Linked K (tied K a b g ∷ ts) p q
      tie_linked p q hp hq (inl e) = linked_more K (tied K a b g) ts p q (tells.linked p q hp hq e)
      tie_linked p q hp hq (inr (inl e)) =
          let new = tied K a b g in
          linked_join K (new ∷ ts) p a q (linked_more K new ts p a (tells.linked p a hp ha e.0))
          (linked_join K (new ∷ ts) a b q (linked_step K (new ∷ ts) a b (inl (inl (refl, refl)))) (linked_more K new ts b q (tells.linked b q hb hq e.1)))
      tie_linked p q hp hq (inr (inr e)) =
          let new = tied K a b g in
          linked_join K (new ∷ ts) p b q (linked_more K new ts p b (tells.linked p b hp hb e.0))
          (linked_join K (new ∷ ts) b a q (linked_step K (new ∷ ts) b a (inl (inr (refl, refl)))) (linked_more K new ts a q (tells.linked a q ha hq e.1)))

      pub tells_tie : Tells K mean (holding cs' n) (tied K a b g ∷ ts)
      tells_tie = record {
        kept = x.kept;
        within = ((ha, hb), tells.within);
        says = λ v f. (x.ties v f, tells.says v (x.back v f));
        only = λ v s. x.on v (tells.only v s.1) s.0;
        linked = λ p q hp hq e. tie_linked p q hp hq (x.from p q hp hq e);
        joined = λ p q hp hq l.
            linked_same K (roots cs') (tied K a b g ∷ ts)
            (joins_more K (roots cs') (tied K a b g) ts x.ends (λ p q j. let w = joins_within K n ts tells.within p q j in x.one p q w.0 w.1 (same_root p q j)))
            p q l;
      }
