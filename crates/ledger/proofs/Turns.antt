-- One turn of the relabelling over the cells. Assumes nothing.
use Rattle.std.proofs.Common.{◌≡◌, ℕ, ◌+◌, ◌<◌, ◌≤◌, List, length, get_or, set, sym, ap, ◌∙◌, subst, ⊎_elim, arith}
use Rattle.std.proofs.lemmas.List.{set-get_or}
use Rattle.std.proofs.lemmas.Bool.{cases_eq}
use Rattle.steps.specs.Kind.{Kind, limit}
use Rattle.ledger.specs.declared.cells.Cell.{Cell}
use Rattle.ledger.specs.Trees.{CellMoved, roots, steps, Movable}
use Rattle.ledger.proofs.Views.{at_set_same, at_set_other}
use Rattle.ledger.proofs.Stands.{Stands, stands}
use Rattle.ledger.proofs.Moves.{Midway, hit, miss}

module _ {S : Type 0} (K : Kind) (mean : S → K.Element) where
  -- the cells es before the relabelling and cs where it has come to i; o is the cell at i, and c what it becomes
  module _ (es cs : List (Cell S)) (n i : ℕ) (o c : Cell S) {from to : ℕ} {by : K.Element} (h : i < length cs) (hi : i < n) (there : o ≡ get_or cs i o) (short : Movable K n (roots es) (steps K mean es) from by) (m : Midway K i (roots es) (steps K mean es) (roots cs) (steps K mean cs) from to by) (moved : CellMoved K mean (get_or cs i o) c from to by) where
    is : CellMoved K mean o c from to by
    is = subst (λ (x : Cell S). CellMoved K mean x c from to by) (sym there) moved

    st : Stands K mean cs i o
    st = stands K mean cs i o h there

    was : roots es i ≡ o.root
    was = sym (m.rest_root i (omega arith)) ∙ st.root

    was_step : steps K mean es i ≡ mean o.step
    was_step = sym (m.rest_step i (omega arith)) ∙ st.step

    moves : o.root ≡ from → Midway K (i + 1) (roots es) (steps K mean es) (roots (set cs i c)) (steps K mean (set cs i c)) from to by
    moves e =
        let fits = subst (λ (x : K.Element). K.size x + K.size by ≤ limit) was_step (short i hi (was ∙ e)) in
        hit (roots (set cs i c)) (steps K mean (set cs i c)) m (was ∙ e)
        (at_set_same (λ (x : Cell S). x.root) 0 cs i c h ∙ is.there e fits)
        (subst (λ (x : K.Element). K.same x (K.mul (steps K mean es i) by)) (sym (at_set_same (λ (x : Cell S). mean x.step) K.one cs i c h))
        (subst (λ (x : K.Element). K.same (mean c.step) (K.mul x by)) (sym was_step) (is.along e fits)))
        (λ p x. at_set_other (λ (x : Cell S). x.root) 0 cs i p c x)
        (λ p x. at_set_other (λ (x : Cell S). mean x.step) K.one cs i p c x)

    stays : (o.root ≡ from → ⊥) → Midway K (i + 1) (roots es) (steps K mean es) (roots (set cs i c)) (steps K mean (set cs i c)) from to by
    stays x =
        let same : set cs i c ≡ cs = ap (set cs i) (is.stays x ∙ there) ∙ set-get_or cs i o in
        subst (λ (l : List (Cell S)). Midway K (i + 1) (roots es) (steps K mean es) (roots l) (steps K mean l) from to by) (sym same) (miss m (λ e. x (sym was ∙ e)))

    pub turn : Midway K (i + 1) (roots es) (steps K mean es) (roots (set cs i c)) (steps K mean (set cs i c)) from to by
    turn = ⊎_elim moves stays (cases_eq o.root from)
