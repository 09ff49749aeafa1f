-- What each way through a tie and an ask answers. Assumes nothing.
use Rattle.std.proofs.Common.{◌≡◌, ℕ, ◌+◌, ◌<◌, ◌≤◌, true, false, List, ◌++◌, length, get_or, take, drop, Some, None, Ok, Err, Option, Result, IsSome, refl, sym, ◌∙◌, arith}
use Rattle.std.proofs.Math.Logic.{∥∥₁_elim}
use Rattle.std.proofs.Math.Bridge.{le_prop}
use Rattle.std.proofs.lemmas.List.{take-append-drop}
use Rattle.steps.specs.Kind.{Kind, Lawful, Composed, Decides, limit}
use Rattle.ledger.specs.declared.cells.Cell.{Cell}
use Rattle.ledger.specs.declared.faults.Fault.{Fault}
use Rattle.ledger.specs.declared.faults.Fault.TheVariants.{Contradiction}
use Rattle.ledger.specs.Trees.{roots, steps, Relabelled}
use Rattle.ledger.specs.Ties.{tied}
use Rattle.ledger.specs.Tells.{holding, Kept, TellsSome}
use Rattle.ledger.specs.Calls.{Tying, Asking}
use Rattle.ledger.proofs.Answering.{tying_clash, tying_ok, asking_no, asking_yes}
use Rattle.ledger.proofs.Ways.{composes}
use Rattle.ledger.proofs.Joins.{pair_size, tie_size, fits_bridge}
use Rattle.ledger.proofs.Judged.{tied_within, clashes, short_moved, tied_across, way_exact}
use Rattle.ledger.proofs.Stands.{Stands, stands, stands_first, moved_first, same_length}

-- l is the cell of a, r that of b
module _ (K : Kind) (L : Lawful K) {S : Type 0} (mean : S → K.Element) (cs : List (Cell S)) (n a b : ℕ) (tells : ∥ TellsSome K mean (holding cs n) ∥₁) (room : n ≤ length cs) (ha : a < n) (hb : b < n) (l r : Cell S) where
  module _ (sl : Stands K mean cs a l) (sr : Stands K mean cs b r) where
    one : l.root ≡ r.root → roots cs a ≡ roots cs b
    one e = sl.root ∙ e ∙ sym sr.root

    two : (l.root ≡ r.root → ⊥) → roots cs a ≡ roots cs b → ⊥
    two ne e = ne (sym sl.root ∙ e ∙ sr.root)

    -- what is known of the steps in the two cells is known of those of the points
    of_cells : (P : K.Element → K.Element → Type 0) → P (mean l.step) (mean r.step) → P (steps K mean cs a) (steps K mean cs b)
    of_cells P = rw (sl.step, sr.step) (λ p. p)

    -- and a bound on their sizes the other way round, where it holds in every sound ledger
    bounded : (f : K.Element → K.Element → ℕ) → (Kept K mean cs n → f (steps K mean cs a) (steps K mean cs b) ≤ limit) → f (mean l.step) (mean r.step) ≤ limit
    bounded f h = ∥∥₁_elim tells le_prop (λ w. rw (← sl.step, ← sr.step) (h w.1.kept))

  -- a tie reads them among the first n cells, and leaves the others
  module _ (il : l ≡ get_or (take n cs) a l) (ir : r ≡ get_or (take n cs) b r) (g : K.Element) (small : K.size g ≤ K.most) where
    sl : Stands K mean cs a l
    sl = stands_first K mean cs n room a l ha il

    sr : Stands K mean cs b r
    sr = stands_first K mean cs n room b r hb ir

    -- g and b's step compose
    fits : K.size g + K.size (mean r.step) ≤ limit
    fits = bounded sl sr (λ x y. K.size g + K.size y) (λ k. tie_size K L n (roots cs) (steps K mean cs) k.sound k.few g small b hb)

    kept : (x : Result (Unit {0}) Fault) → Tying K mean (holding cs n) (tied K a b g) x (holding cs n) → Tying K mean (holding cs n) (tied K a b g) x (holding (take n cs ++ drop n cs) n)
    kept x = rw take-append-drop (λ k. k)

    pub tie_known : l.root ≡ r.root → (K.size g + K.size (mean r.step) ≤ limit → Decides true (K.same (mean l.step) (K.mul g (mean r.step)))) → Tying K mean (holding cs n) (tied K a b g) (Ok tt) (holding (take n cs ++ drop n cs) n)
    tie_known e met =
        let is = of_cells sl sr (λ x y. Decides true (K.same x (K.mul g y))) (met fits) in
        kept (Ok tt) (tying_ok K mean cs n a b g (ha, hb) small cs refl (λ ts t. tied_within K L mean cs n a b t.kept ha hb g (one sl sr e) is))

    pub tie_clashes : l.root ≡ r.root → (K.size g + K.size (mean r.step) ≤ limit → Decides false (K.same (mean l.step) (K.mul g (mean r.step)))) → Tying K mean (holding cs n) (tied K a b g) (Err (Contradiction a b)) (holding (take n cs ++ drop n cs) n)
    tie_clashes e unmet =
        let isnt = of_cells sl sr (λ x y. Decides false (K.same x (K.mul g y))) (unmet fits) in
        kept (Err (Contradiction a b)) (tying_clash K mean cs n a b g (ha, hb) small (λ ts t. clashes K L mean cs n a b t.kept ha hb g (one sl sr e) isnt))

    module _ (ne : l.root ≡ r.root → ⊥) (o : Option S) (met : K.size g + K.size (mean r.step) ≤ limit → Composed K mean (K.inv (mean l.step)) (K.mul g (mean r.step)) o) where
      -- the bridging step is never too large
      pub tie_bridge : IsSome o
      tie_bridge =
          composes K mean (K.inv (mean l.step)) (K.mul g (mean r.step))
          (bounded sl sr (λ x y. K.size (K.inv x) + K.size (K.mul g y)) (λ k. fits_bridge K L n (roots cs) (steps K mean cs) k.sound a b ha hb (two sl sr ne) g small k.few))
          o (met fits)

      pub tie_joins : (by : S) → o ≡ Some by → (ds : List (Cell S)) → length ds ≡ length (take n cs) → Relabelled K mean (take n cs) ds l.root r.root (mean by) → Tying K mean (holding cs n) (tied K a b g) (Ok tt) (holding (ds ++ drop n cs) n)
      tie_joins by some ds long moves =
          let is = of_cells sl sr (λ x y. Composed K mean (K.inv x) (K.mul g y) (Some by)) (rw some at (met fits)) in
          let whole = same_length n cs ds long in
          tying_ok K mean cs n a b g (ha, hb) small (ds ++ drop n cs) whole
          (λ ts t.
          tied_across K L mean cs n a b t.kept ha hb g small (two sl sr ne) (mean by) is.1 _ _ sl.root sr.root (ds ++ drop n cs) whole
          (moved_first K mean cs n room ds l.root r.root (mean by) long moves
          (short_moved K L mean cs n a b t.kept ha hb g small (two sl sr ne) (mean by) is.1 _ _ sl.root sr.root)))

  module _ (il : l ≡ get_or cs a l) (ir : r ≡ get_or cs b r) where
    al : Stands K mean cs a l
    al = stands K mean cs a l (omega arith) il

    ar : Stands K mean cs b r
    ar = stands K mean cs b r (omega arith) ir

    pub ask_apart : (l.root ≡ r.root → ⊥) → Asking K mean (holding cs n) a b (Ok None) (holding cs n)
    ask_apart ne = asking_no K mean (holding cs n) a b (ha, hb) (λ ts t j. two al ar ne (t.joined a b ha hb j))

    module _ (o : Option S) (met : Composed K mean (mean l.step) (K.inv (mean r.step)) o) where
      -- the step between two points is never too large
      pub ask_way : IsSome o
      ask_way =
          composes K mean (mean l.step) (K.inv (mean r.step))
          (bounded al ar (λ x y. K.size x + K.size (K.inv y))
          (λ k. let s = pair_size K L n (roots cs) (steps K mean cs) k.sound k.few a b ha hb in let i = L.size_inv (steps K mean cs b) in omega arith))
          o met

      pub ask_joined : l.root ≡ r.root → (step : S) → o ≡ Some step → Asking K mean (holding cs n) a b (Ok (Some step)) (holding cs n)
      ask_joined e step some =
          let is = of_cells al ar (λ x y. Composed K mean x (K.inv y) (Some step)) (rw some at met) in
          asking_yes K mean (holding cs n) a b (ha, hb) step
          (λ ts t. t.linked a b ha hb (one al ar e))
          (λ ts t. way_exact K L mean cs n a b ts t ha hb (mean step) (one al ar e) is.1)
