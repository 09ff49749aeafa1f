-- What a tie comes to, over the cells. Assumes nothing.
use Rattle.std.proofs.Common.{◌≡◌, ℕ, ◌<◌, ◌≤◌, List, length, sym, refl, ◌∙◌, subst, inl, inr, ⊎_elim, arith}
use Rattle.std.proofs.lemmas.Bool.{cases_eq}
use Rattle.steps.specs.Kind.{Kind, Lawful}
use Rattle.ledger.specs.declared.cells.Cell.{Cell}
use Rattle.ledger.specs.Trees.{roots, steps, Movable, Moved}
use Rattle.ledger.specs.Ties.{Tie, tied, Holds, Satisfies}
use Rattle.ledger.specs.Tells.{holding, Kept, CellsFit, Tells}
use Rattle.ledger.specs.Calls.{Exactly}
use Rattle.ledger.proofs.Grown.{From, Tied, Clashes}
use Rattle.ledger.proofs.Groups.{Eq, on_right, on_left, right, cancel_right}
use Rattle.ledger.proofs.Joins.{own_fits, within, within_only, fits_moved, back_fits, back_tie, on_fits, joined_sound}

module _ (K : Kind) (L : Lawful K) {S : Type 0} (mean : S → K.Element) (cs : List (Cell S)) (n a b : ℕ) (kept : Kept K mean cs n) (ha : a < n) (hb : b < n) where
  -- the step between two points of a tree ties them, whatever values fit
  pub way_ties : (s : K.Element) → roots cs a ≡ roots cs b → Eq K L s (K.mul (steps K mean cs a) (K.inv (steps K mean cs b))) → (v : ℕ → K.Element) → CellsFit K mean cs n v → Holds K v (tied K a b s)
  way_ties s e is v fits =
      within K L n (roots cs) (steps K mean cs) kept.sound a b s ha hb e v fits
      (L.swap _ _ (L.join _ _ _ (on_right K L _ _ (steps K mean cs b) is)
      (L.join _ _ _ (L.assoc (steps K mean cs a) (K.inv (steps K mean cs b)) (steps K mean cs b))
      (L.join _ _ _ (on_left K L _ _ (steps K mean cs a) (L.inverse (steps K mean cs b))) (right K L (steps K mean cs a))))))

  module _ (g : K.Element) where
    pub tied_within : roots cs a ≡ roots cs b → Eq K L (steps K mean cs a) (K.mul g (steps K mean cs b)) → Tied K mean cs n cs a b g
    tied_within e s = record {
      kept = kept;
      some = (steps K mean cs, own_fits K L n (roots cs) (steps K mean cs) kept.sound);
      on = λ v f t. f;
      back = λ v f. f;
      ties = λ v f. within K L n (roots cs) (steps K mean cs) kept.sound a b g ha hb e v f s;
      one = λ p q hp hq x. x;
      ends = e;
      from = λ p q hp hq x. inl x;
    }

    pub clashes : roots cs a ≡ roots cs b → (Eq K L (steps K mean cs a) (K.mul g (steps K mean cs b)) → ⊥) → Clashes K mean cs n a b g
    clashes e x v f t = x (within_only K L n (roots cs) (steps K mean cs) kept.sound a b g ha hb e v f t)

    -- two trees, joined by the step t between their roots
    module _ (hg : K.size g ≤ K.most) (ne : roots cs a ≡ roots cs b → ⊥) (t : K.Element) (et : Eq K L t (K.mul (K.inv (steps K mean cs a)) (K.mul g (steps K mean cs b)))) (from to : ℕ) (ea : roots cs a ≡ from) (eb : roots cs b ≡ to) where
      pub short_moved : Movable K n (roots cs) (steps K mean cs) from t
      short_moved p h e =
          fits_moved K L n (roots cs) (steps K mean cs) kept.sound a b ha hb ne g hg t et kept.few p h (e ∙ sym ea)

      module _ (cs' : List (Cell S)) (long : length cs' ≡ length cs) (m : Moved K n (roots cs) (steps K mean cs) (roots cs') (steps K mean cs') from to t) where
        moved : Moved K n (roots cs) (steps K mean cs) (roots cs') (steps K mean cs') (roots cs a) (roots cs b) t
        moved =
            let Mv : ℕ → ℕ → Type 0 = λ f o. Moved K n (roots cs) (steps K mean cs) (roots cs') (steps K mean cs') f o t in
            subst (λ (f : ℕ). Mv f (roots cs b)) (sym ea) (subst (λ (o : ℕ). Mv from o) (sym eb) m)

        one_root : (p q : ℕ) → p < n → q < n → roots cs p ≡ roots cs q → roots cs' p ≡ roots cs' q
        one_root p q hp hq e =
            ⊎_elim
            (λ (x : roots cs p ≡ roots cs a). moved.there p hp x ∙ sym (moved.there q hq (sym e ∙ x)))
            (λ (x : roots cs p ≡ roots cs a → ⊥). moved.stays p hp x ∙ e ∙ sym (moved.stays q hq (λ y. x (e ∙ y))))
            (cases_eq (roots cs p) (roots cs a))

        from_where : (p q : ℕ) → p < n → q < n → roots cs' p ≡ roots cs' q → From cs a b p q
        from_where p q hp hq e =
            ⊎_elim
            (λ (x : roots cs p ≡ roots cs a).
            ⊎_elim
            (λ (y : roots cs q ≡ roots cs a). inl (x ∙ sym y))
            (λ (y : roots cs q ≡ roots cs a → ⊥). inr (inl (x, sym (moved.there p hp x) ∙ e ∙ moved.stays q hq y)))
            (cases_eq (roots cs q) (roots cs a)))
            (λ (x : roots cs p ≡ roots cs a → ⊥).
            ⊎_elim
            (λ (y : roots cs q ≡ roots cs a). inr (inr (sym (moved.stays p hp x) ∙ e ∙ moved.there q hq y, sym y)))
            (λ (y : roots cs q ≡ roots cs a → ⊥). inl (sym (moved.stays p hp x) ∙ e ∙ moved.stays q hq y))
            (cases_eq (roots cs q) (roots cs a)))
            (cases_eq (roots cs p) (roots cs a))

        pub tied_across : Tied K mean cs n cs' a b g
        tied_across =
            let sound' = joined_sound K L n (roots cs) (steps K mean cs) kept.sound a b ha hb ne g hg t et (roots cs') (steps K mean cs') moved in
            let r = kept.room in
            record {
              kept = record { room = omega arith; few = kept.few; sound = sound' };
              some = (steps K mean cs', own_fits K L n (roots cs') (steps K mean cs') sound');
              on = λ v f ti. on_fits K L n (roots cs) (steps K mean cs) kept.sound a b ha hb ne g hg t et (roots cs') (steps K mean cs') moved v f ti;
              back = λ v f. back_fits K L n (roots cs) (steps K mean cs) kept.sound a b ha hb ne g hg t et (roots cs') (steps K mean cs') moved v f;
              ties = λ v f. back_tie K L n (roots cs) (steps K mean cs) kept.sound a b ha hb ne g hg t et (roots cs') (steps K mean cs') moved v f;
              one = one_root;
              ends = moved.there a ha refl ∙ sym (moved.stays b hb (λ e. ne (sym e)));
              from = from_where;
            }

-- it is the one step that ties them whatever values satisfy the ties
pub way_exact : (K : Kind) (L : Lawful K) {S : Type 0} (mean : S → K.Element) (cs : List (Cell S)) (n a b : ℕ) (ts : List (Tie K)) (t : Tells K mean (holding cs n) ts) → a < n → b < n → (s : K.Element) → roots cs a ≡ roots cs b → Eq K L s (K.mul (steps K mean cs a) (K.inv (steps K mean cs b))) → (g : K.Element) → Exactly (K.same s g) ((v : ℕ → K.Element) → Satisfies K v ts → Holds K v (tied K a b g))
way_exact K L mean cs n a b ts t ha hb s e is g = (
  λ same v all. L.join _ _ _ (way_ties K L mean cs n a b t.kept ha hb s e is v (t.only v all)) (on_right K L s g (v b) same),
  λ ties.
      let own = own_fits K L n (roots cs) (steps K mean cs) t.kept.sound in
      cancel_right K L s g (steps K mean cs b)
      (L.join _ _ _ (L.swap _ _ (way_ties K L mean cs n a b t.kept ha hb s e is (steps K mean cs) own)) (ties (steps K mean cs) (t.says (steps K mean cs) own))),
)
