-- Cells that hold no point yet. Assumes nothing.
use Rattle.std.proofs.Common.{◌≡◌, ℕ, ◌<◌, List, set, sym, ◌∙◌, arith}
use Rattle.std.proofs.Math.Logic.{∥∥₁_map}
use Rattle.std.proofs.lemmas.List.{length-set}
use Rattle.steps.specs.Kind.{Kind}
use Rattle.ledger.specs.declared.cells.Cell.{Cell}
use Rattle.ledger.specs.Trees.{roots, steps, Sound, Fits}
use Rattle.ledger.specs.Ties.{Tie}
use Rattle.ledger.specs.Tells.{holding, Tells, TellsSome}
use Rattle.ledger.proofs.Views.{at_set_other}
use Rattle.ledger.proofs.Groups.{carry}
use Rattle.ledger.proofs.Counts.{count_same}

-- the first n points stay as they are
module _ (K : Kind) (n : ℕ) (root : ℕ → ℕ) (step : ℕ → K.Element) (root' : ℕ → ℕ) (step' : ℕ → K.Element) (stays : (p : ℕ) → p < n → root' p ≡ root p) (keeps : (p : ℕ) → p < n → step' p ≡ step p) where
  back_same : (v : ℕ → K.Element) → Fits K n root' step' v → Fits K n root step v
  back_same v fits p h = carry K v (v p) (step' p) (step p) (root' p) (root p) (stays p h) (keeps p h) (fits p h)

  on_same : (v : ℕ → K.Element) → Fits K n root step v → Fits K n root' step' v
  on_same v fits p h = carry K v (v p) (step p) (step' p) (root p) (root' p) (sym (stays p h)) (sym (keeps p h)) (fits p h)

  sound_same : Sound K n root step → Sound K n root' step'
  sound_same sound = record {
    inside = λ p h. rw (stays p h) (sound.inside p h);
    top = λ p h. rw (stays p h) (stays (root p) (sound.inside p h) ∙ sound.top p h);
    still = λ p h. rw (stays p h, keeps (root p) (sound.inside p h)) (sound.still p h);
    near = λ p q hp hq e. rw (stays p hp, keeps p hp, keeps q hq, count_same root root' (root p) n stays) (sound.near p q hp hq (sym (stays p hp) ∙ e ∙ stays q hq));
  }

-- the first cell past them is written
module _ (K : Kind) {S : Type 0} (mean : S → K.Element) (cs : List (Cell S)) (n : ℕ) (c : Cell S) where
  stays : (p : ℕ) → p < n → roots (set cs n c) p ≡ roots cs p
  stays p h = at_set_other (λ (x : Cell S). x.root) 0 cs n p c (omega arith)

  keeps : (p : ℕ) → p < n → steps K mean (set cs n c) p ≡ steps K mean cs p
  keeps p h = at_set_other (λ (x : Cell S). mean x.step) K.one cs n p c (omega arith)

  pub tells_same : (ts : List (Tie K)) → Tells K mean (holding cs n) ts → Tells K mean (holding (set cs n c) n) ts
  tells_same ts t =
      let long = length-set cs n c in
      let r = t.kept.room in
      record {
        kept = record { room = omega arith; few = t.kept.few; sound = sound_same K n (roots cs) (steps K mean cs) (roots (set cs n c)) (steps K mean (set cs n c)) stays keeps t.kept.sound };
        within = t.within;
        says = λ v f. t.says v (back_same K n (roots cs) (steps K mean cs) (roots (set cs n c)) (steps K mean (set cs n c)) stays keeps v f);
        only = λ v s. on_same K n (roots cs) (steps K mean cs) (roots (set cs n c)) (steps K mean (set cs n c)) stays keeps v (t.only v s);
        linked = λ p q hp hq e. t.linked p q hp hq (sym (stays p hp) ∙ e ∙ stays q hq);
        joined = λ p q hp hq l. stays p hp ∙ t.joined p q hp hq l ∙ sym (stays q hq);
      }

  pub some_same : ∥ TellsSome K mean (holding cs n) ∥₁ → ∥ TellsSome K mean (holding (set cs n c) n) ∥₁
  some_same some = ∥∥₁_map some (λ w. (w.0, tells_same w.0 w.1))
