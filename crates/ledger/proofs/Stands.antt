-- Cells as a point's place among them, and among the first n of them. Assumes nothing.
use Rattle.std.proofs.Common.{◌≡◌, ℕ, zero, suc, ◌<◌, ◌≤◌, List, [], ◌∷◌, ◌++◌, ◌+◌, length, get_or, take, drop, refl, sym, ap, ◌∙◌, subst, arith, length-append}
use Rattle.std.proofs.lemmas.List.{length-take-le, take-append-drop}
use Rattle.steps.specs.Kind.{Kind, limit}
use Rattle.ledger.specs.declared.cells.Cell.{Cell}
use Rattle.ledger.specs.Trees.{at, roots, steps, Movable, Moved, Relabelled}
use Rattle.ledger.proofs.Views.{at-get_or}

module _ {X Y : Type 0} (f : X → Y) (d : Y) where
  pub at-take : (xs : List X) (n k : ℕ) → k < n → at f d (take n xs) k ≡ at f d xs k
  at-take [] zero k h = refl
  at-take [] (suc n) k h = refl
  at-take (x ∷ xs) zero k h = absurd (omega arith)
  at-take (x ∷ xs) (suc n) zero h = refl
  at-take (x ∷ xs) (suc n) (suc k) h = at-take xs n k (omega arith)

  pub at-append : (xs ys : List X) (k : ℕ) → k < length xs → at f d (xs ++ ys) k ≡ at f d xs k
  at-append [] ys k h = absurd (omega arith)
  at-append (x ∷ xs) ys zero h = refl
  at-append (x ∷ xs) ys (suc k) h = at-append xs ys k (omega arith)

-- a list of other first elements is as long
pub same_length : {X : Type 0} (n : ℕ) (xs ys : List X) → length ys ≡ length (take n xs) → length (ys ++ drop n xs) ≡ length xs
same_length n xs ys e =
    length-append ys (drop n xs) ∙ ap (λ (k : ℕ). k + length (drop n xs)) e ∙ sym (length-append (take n xs) (drop n xs)) ∙ ap length (take-append-drop n xs)

module _ (K : Kind) {S : Type 0} (mean : S → K.Element) where
  -- c is the cell of the point a
  pub record Stands (cs : List (Cell S)) (a : ℕ) (c : Cell S) : Type 0 where
    pub root : roots cs a ≡ c.root
    pub step : steps K mean cs a ≡ mean c.step

  pub stands : (cs : List (Cell S)) (a : ℕ) (c : Cell S) → a < length cs → c ≡ get_or cs a c → Stands cs a c
  stands cs a c h is = record {
    root = at-get_or (λ (x : Cell S). x.root) 0 cs a c h ∙ ap (λ (x : Cell S). x.root) (sym is);
    step = at-get_or (λ (x : Cell S). mean x.step) K.one cs a c h ∙ ap (λ (x : Cell S). mean x.step) (sym is);
  }

  module _ (cs : List (Cell S)) (n : ℕ) (room : n ≤ length cs) where
    first_root : (p : ℕ) → p < n → roots (take n cs) p ≡ roots cs p
    first_root = at-take (λ (x : Cell S). x.root) 0 cs n

    first_step : (p : ℕ) → p < n → steps K mean (take n cs) p ≡ steps K mean cs p
    first_step = at-take (λ (x : Cell S). mean x.step) K.one cs n

    -- among the first n
    pub stands_first : (a : ℕ) (c : Cell S) → a < n → c ≡ get_or (take n cs) a c → Stands cs a c
    stands_first a c h is =
        let e = length-take-le n cs room in
        let s = stands (take n cs) a c (omega arith) is in
        record { root = sym (first_root a h) ∙ s.root; step = sym (first_step a h) ∙ s.step }

    -- the first n are moved, and the others stay
    pub moved_first : (ds : List (Cell S)) (from to : ℕ) (by : K.Element) → length ds ≡ length (take n cs) → Relabelled K mean (take n cs) ds from to by → Movable K n (roots cs) (steps K mean cs) from by → Moved K n (roots cs) (steps K mean cs) (roots (ds ++ drop n cs)) (steps K mean (ds ++ drop n cs)) from to by
    moved_first ds from to by long moves short =
        let e = length-take-le n cs room in
        let new_root : (p : ℕ) → p < n → roots (ds ++ drop n cs) p ≡ roots ds p = λ p h. at-append (λ (x : Cell S). x.root) 0 ds (drop n cs) p (omega arith) in
        let new_step : (p : ℕ) → p < n → steps K mean (ds ++ drop n cs) p ≡ steps K mean ds p = λ p h. at-append (λ (x : Cell S). mean x.step) K.one ds (drop n cs) p (omega arith) in
        let m = moves (λ p h is. subst (λ (x : K.Element). K.size x + K.size by ≤ limit) (sym (first_step p (omega arith))) (short p (omega arith) (sym (first_root p (omega arith)) ∙ is))) in
        record {
          there = λ p h is. new_root p h ∙ m.there p (omega arith) (first_root p h ∙ is);
          along = λ p h is.
              subst (λ (x : K.Element). K.same x (K.mul (steps K mean cs p) by)) (sym (new_step p h))
              (subst (λ (x : K.Element). K.same (steps K mean ds p) (K.mul x by)) (first_step p h) (m.along p (omega arith) (first_root p h ∙ is)));
          stays = λ p h no. new_root p h ∙ m.stays p (omega arith) (λ is. no (sym (first_root p h) ∙ is)) ∙ first_root p h;
          keeps = λ p h no. new_step p h ∙ m.keeps p (omega arith) (λ is. no (sym (first_root p h) ∙ is)) ∙ first_step p h;
        }
