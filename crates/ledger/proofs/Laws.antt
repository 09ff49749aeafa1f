-- The law over runs. Assumes nothing.
use Rattle.std.proofs.Common.{◌≡◌, ℕ, Bool, true, false, Ok, Err, Option, Result, List, [], ◌∷◌, length, sym, refl, ap, ◌∙◌, subst}
use Rattle.steps.specs.Kind.{Kind}
use Rattle.ledger.specs.declared.faults.Fault.{Fault}
use Rattle.ledger.specs.Ties.{Tie}
use Rattle.ledger.specs.Tells.{Contents, Tells}
use Rattle.ledger.specs.Calls.{PointAnswer, more, TieChecks, TieVerdict, after, AskChecks, AskVerdict, told, Asking}
use Rattle.ledger.specs.Runs.{Event, pointed, tying, between, asking, Run, Right, Law}

-- an ask is refused as what it tells is
checks_told : {S : Type 0} (n a b : ℕ) (x : Result Bool Fault) (out : S) → AskChecks n a b (told x out) → AskChecks n a b x
checks_told n a b (Ok true) out h = record { outside = h.outside; names = h.names }
checks_told n a b (Ok false) out h = record { outside = h.outside; names = h.names }
checks_told n a b (Err e) out h = record { outside = h.outside; names = h.names }

module _ (K : Kind) {S : Type 0} (mean : S → K.Element) where
  -- what is asked of a ledger that tells of ts is answered rightly, and changes nothing of it
  asked : (a b : ℕ) (x : Result (Option S) Fault) (cells n : ℕ) (ts : List (Tie K)) (s s' : Contents S) → length s.cells ≡ cells → s.len ≡ n → Tells K mean s ts → Asking K mean s a b x s' → AskChecks n a b x × AskVerdict K mean n ts a b x × (length s'.cells ≡ cells) × (s'.len ≡ n) × Tells K mean s' ts
  asked a b x cells n ts s s' r l t h = (
    subst (λ (m : ℕ). AskChecks m a b x) l h.checks,
    subst (λ (m : ℕ). AskVerdict K mean m ts a b x) l (h.verdict ts t),
    ap (λ (c : Contents S). length c.cells) h.unchanged ∙ r,
    ap (λ (c : Contents S). c.len) h.unchanged ∙ l,
    subst (λ (c : Contents S). Tells K mean c ts) (sym h.unchanged) t,
  )

  runs : (es : List (Event K S)) (cells n : ℕ) (ts : List (Tie K)) (s s' : Contents S) → length s.cells ≡ cells → s.len ≡ n → Tells K mean s ts → Run K mean s es s' → Right K mean cells n ts es
  runs [] cells n ts s s' r l t h = tt
  runs (pointed a ∷ es) cells n ts s s' r l t h = (
    subst (λ (c : ℕ). PointAnswer c n a) r (subst (λ (m : ℕ). PointAnswer (length s.cells) m a) l h.1.answer),
    runs es cells (more n a) ts h.0 s' (h.1.room ∙ r) (h.1.len ∙ ap (λ (m : ℕ). more m a) l) (h.1.tells ts t) h.2,
  )
  runs (tying x a ∷ es) cells n ts s s' r l t h = (
    subst (λ (m : ℕ). TieChecks K m x a) l h.1.checks,
    subst (λ (m : ℕ). TieVerdict K m ts x a) l (h.1.verdict ts t),
    runs es cells n (after K ts x a) h.0 s' (h.1.room ∙ r) (h.1.len ∙ l) (h.1.tells ts t) h.2,
  )
  runs (between a b x ∷ es) cells n ts s s' r l t h =
      let w = asked a b x cells n ts s h.0 r l t h.1 in
      (w.0, w.1, runs es cells n ts h.0 s' w.2 w.3 w.4 h.2)
  runs (asking a b out out' x ∷ es) cells n ts s s' r l t h =
      let w = asked a b (told x out') cells n ts s h.0 r l t h.1.0 in
      (checks_told n a b x out' w.0, w.1, runs es cells n ts h.0 s' w.2 w.3 w.4 h.2)

  pub every_run : (s : Contents S) → s.len ≡ 0 → Tells K mean s [] → Law K mean s
  every_run s l t es s' h = runs es (length s.cells) 0 [] s s' refl l t h
