-- What a tie between two trees does to the values that fit. Assumes nothing.
use Rattle.std.proofs.Common.{◌≡◌, ℕ, ◌+◌, ◌*◌, ◌<◌, ◌≤◌, sym, refl, ◌∙◌, subst, ⊎_elim, mul-le-mul_right, add-mul, mul-le-mul_left, arith}
use Rattle.std.proofs.lemmas.Bool.{cases_eq}
use Rattle.steps.specs.Kind.{Kind, Lawful, limit}
use Rattle.ledger.specs.Limits.{most_points}
use Rattle.ledger.specs.Trees.{Short, Sound, Fits, Moved, count}
use Rattle.ledger.proofs.Groups.{carry, Eq, on_left, on_right, redo, cancel, cancel_right, right, inv_one, across, size_turned, spread}
use Rattle.ledger.proofs.Counts.{count_one, count_two, count_moved, count_kept}

module _ (K : Kind) (L : Lawful K) (n : ℕ) (root : ℕ → ℕ) (step : ℕ → K.Element) (sound : Sound K n root step) where
  -- some values fit
  pub own_fits : Fits K n root step step
  own_fits p h = L.swap _ _ (L.join _ _ _ (on_left K L _ _ (step p) (sound.still p h)) (right K L (step p)))

  pub own_size : (p : ℕ) → p < n → Short K n root (root p) (step p)
  own_size p h =
      let e : Eq K L (K.mul (step p) (K.inv (step (root p)))) (step p) =
      L.join _ _ _ (on_left K L _ _ (step p) (L.join _ _ _ (L.inv_same _ _ (sound.still p h)) (inv_one K L))) (right K L (step p)) in
      subst (λ (s : ℕ). s + K.most ≤ count root (root p) n * K.most) (L.size_same _ _ e) (sound.near p (root p) h (sound.inside p h) (sym (sound.top p h)))

  pub pair_size : n ≤ most_points → (a b : ℕ) → a < n → b < n → K.size (step a) + K.size (step b) ≤ limit
  pair_size hn a b ha hb =
      let xa = own_size a ha in
      let xb = own_size b hb in
      let ya = count_one root (root a) n in
      let yb = count_one root (root b) n in
      let za = mul-le-mul_left (count root (root a) n) L.small in
      let zb = mul-le-mul_left (count root (root b) n) L.small in
      omega arith

  pub tie_size : n ≤ most_points → (g : K.Element) → K.size g ≤ K.most → (b : ℕ) → b < n → K.size g + K.size (step b) ≤ limit
  tie_size hn g hg b hb =
      let xb = own_size b hb in
      let yb = count_one root (root b) n in
      let zb = mul-le-mul_left (count root (root b) n) L.small in
      let s = L.small in
      omega arith

  -- points of one tree: the tie holds of values that fit if it holds of the steps
  pub within : (a b : ℕ) (g : K.Element) → a < n → b < n → root a ≡ root b → (v : ℕ → K.Element) → Fits K n root step v → Eq K L (step a) (K.mul g (step b)) → Eq K L (v a) (K.mul g (v b))
  within a b g ha hb e v fits s =
      L.join _ _ _ (fits a ha)
      (L.join _ _ _ (on_right K L _ _ (v (root a)) s)
      (L.join _ _ _ (L.assoc g (step b) (v (root a)))
      (on_left K L _ _ g (L.swap _ _ (subst (λ (r : ℕ). Eq K L (v b) (K.mul (step b) (v r))) (sym e) (fits b hb))))))

  -- and only then
  pub within_only : (a b : ℕ) (g : K.Element) → a < n → b < n → root a ≡ root b → (v : ℕ → K.Element) → Fits K n root step v → Eq K L (v a) (K.mul g (v b)) → Eq K L (step a) (K.mul g (step b))
  within_only a b g ha hb e v fits t =
      cancel_right K L (step a) (K.mul g (step b)) (v (root a))
      (L.join _ _ _ (L.swap _ _ (fits a ha))
      (L.join _ _ _ t
      (L.join _ _ _ (on_left K L _ _ g (subst (λ (r : ℕ). Eq K L (v b) (K.mul (step b) (v r))) (sym e) (fits b hb)))
      (L.swap _ _ (L.assoc g (step b) (v (root a)))))))

  -- two trees
  module _ (a b : ℕ) (ha : a < n) (hb : b < n) (ne : root a ≡ root b → ⊥) (g : K.Element) (hg : K.size g ≤ K.most) where
    -- the sizes that are composed
    pub fits_bridge : n ≤ most_points → K.size (K.inv (step a)) + K.size (K.mul g (step b)) ≤ limit
    fits_bridge hn =
        let xa = own_size a ha in
        let xb = own_size b hb in
        let y = count_two root (root a) (root b) n ne in
        let za = mul-le-mul_left (count root (root a) n) L.small in
        let zb = mul-le-mul_left (count root (root b) n) L.small in
        let s = L.small in
        let i = L.size_inv (step a) in
        let k = L.size_mul g (step b) in
        omega arith

    module _ (t : K.Element) (et : Eq K L t (K.mul (K.inv (step a)) (K.mul g (step b)))) where
      size_t : K.size t ≤ K.size (step a) + (K.size g + K.size (step b))
      size_t =
          let e = L.size_same _ _ et in
          let i = L.size_inv (step a) in
          let j = L.size_mul (K.inv (step a)) (K.mul g (step b)) in
          let k = L.size_mul g (step b) in
          omega arith

      pub fits_moved : n ≤ most_points → (p : ℕ) → p < n → root p ≡ root a → K.size (step p) + K.size t ≤ limit
      fits_moved hn p h e =
          let xp = subst (λ (r : ℕ). Short K n root r (step p)) e (own_size p h) in
          let xa = own_size a ha in
          let xb = own_size b hb in
          let y = count_two root (root a) (root b) n ne in
          let za = mul-le-mul_left (count root (root a) n) L.small in
          let zb = mul-le-mul_left (count root (root b) n) L.small in
          let s = L.small in
          let st = size_t in
          omega arith

      -- t w = a⁻¹ (g (b w))
      t_on : (w : K.Element) → Eq K L (K.mul t w) (K.mul (K.inv (step a)) (K.mul g (K.mul (step b) w)))
      t_on w =
          L.join _ _ _ (on_right K L _ _ w et)
          (L.join _ _ _ (L.assoc (K.inv (step a)) (K.mul g (step b)) w) (on_left K L _ _ (K.inv (step a)) (L.assoc g (step b) w)))

      a_t_on : (w : K.Element) → Eq K L (K.mul (step a) (K.mul t w)) (K.mul g (K.mul (step b) w))
      a_t_on w = L.join _ _ _ (on_left K L _ _ (step a) (t_on w)) (redo K L (step a) (K.mul g (K.mul (step b) w)))

      module _ (root' : ℕ → ℕ) (step' : ℕ → K.Element) (moved : Moved K n root step root' step' (root a) (root b) t) where
        b_stays : root b ≡ root a → ⊥
        b_stays e = ne (sym e)

        -- a point outside the tree that moves
        outside : (v : ℕ → K.Element) (p : ℕ) (h : p < n) → (root p ≡ root a → ⊥) → Eq K L (v p) (K.mul (step' p) (v (root' p))) → Eq K L (v p) (K.mul (step p) (v (root p)))
        outside v p h x f = carry K v (v p) (step' p) (step p) (root' p) (root p) (moved.stays p h x) (moved.keeps p h x) f

        outside' : (v : ℕ → K.Element) (p : ℕ) (h : p < n) → (root p ≡ root a → ⊥) → Eq K L (v p) (K.mul (step p) (v (root p))) → Eq K L (v p) (K.mul (step' p) (v (root' p)))
        outside' v p h x f = carry K v (v p) (step p) (step' p) (root p) (root' p) (sym (moved.stays p h x)) (sym (moved.keeps p h x)) f

        module _ (v : ℕ → K.Element) where
          module _ (fits : Fits K n root' step' v) where
            inside_way : (p : ℕ) → p < n → root p ≡ root a → Eq K L (v p) (K.mul (step p) (K.mul t (v (root b))))
            inside_way p h e =
                L.join _ _ _ (subst (λ (r : ℕ). Eq K L (v p) (K.mul (step' p) (v r))) (moved.there p h e) (fits p h))
                (L.join _ _ _ (on_right K L _ _ (v (root b)) (moved.along p h e)) (L.assoc (step p) t (v (root b))))

            top_way : Eq K L (v (root a)) (K.mul t (v (root b)))
            top_way =
                L.join _ _ _ (inside_way (root a) (sound.inside a ha) (sound.top a ha))
                (L.join _ _ _ (on_right K L _ _ _ (sound.still a ha)) (L.left _))

            pub back_fits : Fits K n root step v
            back_fits p h =
                ⊎_elim
                (λ (e : root p ≡ root a). subst (λ (r : ℕ). Eq K L (v p) (K.mul (step p) (v r))) (sym e) (L.join _ _ _ (inside_way p h e) (on_left K L _ _ (step p) (L.swap _ _ top_way))))
                (λ (x : root p ≡ root a → ⊥). outside v p h x (fits p h))
                (cases_eq (root p) (root a))

            pub back_tie : Eq K L (v a) (K.mul g (v b))
            back_tie =
                L.join _ _ _ (inside_way a ha refl)
                (L.join _ _ _ (a_t_on (v (root b))) (on_left K L _ _ g (L.swap _ _ (back_fits b hb))))

          module _ (fits : Fits K n root step v) (tie : Eq K L (v a) (K.mul g (v b))) where
            top_way' : Eq K L (v (root a)) (K.mul t (v (root b)))
            top_way' =
                cancel K L (step a) (v (root a)) (K.mul t (v (root b)))
                (L.join _ _ _ (L.swap _ _ (fits a ha))
                (L.join _ _ _ tie (L.join _ _ _ (on_left K L _ _ g (fits b hb)) (L.swap _ _ (a_t_on (v (root b)))))))

            pub on_fits : Fits K n root' step' v
            on_fits p h =
                ⊎_elim
                (λ (e : root p ≡ root a). subst (λ (r : ℕ). Eq K L (v p) (K.mul (step' p) (v r))) (sym (moved.there p h e))
                (L.join _ _ _ (subst (λ (r : ℕ). Eq K L (v p) (K.mul (step p) (v r))) e (fits p h))
                (L.join _ _ _ (on_left K L _ _ (step p) top_way')
                (L.join _ _ _ (L.swap _ _ (L.assoc (step p) t (v (root b)))) (on_right K L _ _ (v (root b)) (L.swap _ _ (moved.along p h e)))))))
                (λ (x : root p ≡ root a → ⊥). outside' v p h x (fits p h))
                (cases_eq (root p) (root a))

        -- a root that does not move stays a root
        root_stays : (p : ℕ) → p < n → (root p ≡ root a → ⊥) → root' (root p) ≡ root p
        root_stays p h x = moved.stays (root p) (sound.inside p h) (λ e. x (sym (sound.top p h) ∙ e)) ∙ sound.top p h

        still_stays : (p : ℕ) → p < n → (root p ≡ root a → ⊥) → Eq K L (step' (root p)) K.one
        still_stays p h x =
            subst (λ (s : K.Element). Eq K L s K.one) (sym (moved.keeps (root p) (sound.inside p h) (λ e. x (sym (sound.top p h) ∙ e)))) (sound.still p h)

        inside' : (p : ℕ) → p < n → root' p < n
        inside' p h =
            ⊎_elim
            (λ (e : root p ≡ root a). subst (λ (r : ℕ). r < n) (sym (moved.there p h e)) (sound.inside b hb))
            (λ (x : root p ≡ root a → ⊥). subst (λ (r : ℕ). r < n) (sym (moved.stays p h x)) (sound.inside p h))
            (cases_eq (root p) (root a))

        top' : (p : ℕ) → p < n → root' (root' p) ≡ root' p
        top' p h =
            ⊎_elim
            (λ (e : root p ≡ root a). subst (λ (r : ℕ). root' r ≡ r) (sym (moved.there p h e)) (root_stays b hb b_stays))
            (λ (x : root p ≡ root a → ⊥). subst (λ (r : ℕ). root' r ≡ r) (sym (moved.stays p h x)) (root_stays p h x))
            (cases_eq (root p) (root a))

        still' : (p : ℕ) → p < n → Eq K L (step' (root' p)) K.one
        still' p h =
            ⊎_elim
            (λ (e : root p ≡ root a). subst (λ (r : ℕ). Eq K L (step' r) K.one) (sym (moved.there p h e)) (still_stays b hb b_stays))
            (λ (x : root p ≡ root a → ⊥). subst (λ (r : ℕ). Eq K L (step' r) K.one) (sym (moved.stays p h x)) (still_stays p h x))
            (cases_eq (root p) (root a))

        both_count : count root (root a) n + count root (root b) n ≤ count root' (root b) n
        both_count = count_moved root root' (root a) (root b) ne n moved.there moved.stays

        both_most : count root (root a) n * K.most + count root (root b) n * K.most ≤ count root' (root b) n * K.most
        both_most =
            let m = mul-le-mul_right K.most both_count in
            let d = add-mul (count root (root a) n) (count root (root b) n) K.most in
            omega arith

        -- both points move
        near_both : (p q : ℕ) → p < n → q < n → root p ≡ root a → root q ≡ root a → Short K n root' (root b) (K.mul (step' p) (K.inv (step' q)))
        near_both p q hp hq ep eq =
            let e : Eq K L (K.mul (step' p) (K.inv (step' q))) (K.mul (step p) (K.inv (step q))) =
            L.join _ _ _ (L.mul_same _ _ _ _ (moved.along p hp ep) (L.inv_same _ _ (moved.along q hq eq))) (across K L (step p) (step q) t) in
            let s = L.size_same _ _ e in
            let x = subst (λ (r : ℕ). Short K n root r (K.mul (step p) (K.inv (step q)))) ep (sound.near p q hp hq (ep ∙ sym eq)) in
            let m = both_most in
            omega arith

        -- the first one moves to the tree of the second
        near_one : (p q : ℕ) → p < n → q < n → root p ≡ root a → root q ≡ root b → Short K n root' (root b) (K.mul (step' p) (K.inv (step' q)))
        near_one p q hp hq ep eq =
            let kq : step' q ≡ step q = moved.keeps q hq (λ e. ne (sym e ∙ eq)) in
            let e : Eq K L (K.mul (step' p) (K.inv (step q))) (K.mul (K.mul (step p) (K.inv (step a))) (K.mul g (K.mul (step b) (K.inv (step q))))) =
            L.join _ _ _ (on_right K L _ _ (K.inv (step q)) (L.join _ _ _ (moved.along p hp ep) (on_left K L _ _ (step p) et))) (spread K L (step p) (step a) g (step b) (K.inv (step q))) in
            let s = L.size_same _ _ e in
            let s1 = L.size_mul (K.mul (step p) (K.inv (step a))) (K.mul g (K.mul (step b) (K.inv (step q)))) in
            let s2 = L.size_mul g (K.mul (step b) (K.inv (step q))) in
            let x = subst (λ (r : ℕ). Short K n root r (K.mul (step p) (K.inv (step a)))) ep (sound.near p a hp ha ep) in
            let y = sound.near b q hb hq (sym eq) in
            let m = both_most in
            let z : Short K n root' (root b) (K.mul (step' p) (K.inv (step q))) = omega arith in
            subst (λ (s : K.Element). Short K n root' (root b) (K.mul (step' p) (K.inv s))) (sym kq) z

        near_none : (p q : ℕ) → p < n → q < n → (root p ≡ root a → ⊥) → (root q ≡ root a → ⊥) → root p ≡ root q → Short K n root' (root p) (K.mul (step' p) (K.inv (step' q)))
        near_none p q hp hq xp xq e =
            let x = sound.near p q hp hq e in
            let m = mul-le-mul_right K.most (count_kept root root' (root a) (root b) ne (root p) n xp moved.there moved.stays) in
            let z : Short K n root' (root p) (K.mul (step p) (K.inv (step q))) = omega arith in
            subst (λ (s : K.Element). Short K n root' (root p) (K.mul s (K.inv (step' q)))) (sym (moved.keeps p hp xp))
            (subst (λ (s : K.Element). Short K n root' (root p) (K.mul (step p) (K.inv s))) (sym (moved.keeps q hq xq)) z)

        near' : (p q : ℕ) → p < n → q < n → root' p ≡ root' q → Short K n root' (root' p) (K.mul (step' p) (K.inv (step' q)))
        near' p q hp hq e =
            let At : ℕ → Type 0 = λ r. Short K n root' r (K.mul (step' p) (K.inv (step' q))) in
            ⊎_elim
            (λ (ep : root p ≡ root a). subst At (sym (moved.there p hp ep))
            (⊎_elim
            (λ (eq : root q ≡ root a). near_both p q hp hq ep eq)
            (λ (xq : root q ≡ root a → ⊥). near_one p q hp hq ep (sym (moved.stays q hq xq) ∙ sym e ∙ moved.there p hp ep))
            (cases_eq (root q) (root a))))
            (λ (xp : root p ≡ root a → ⊥).
            ⊎_elim
            (λ (eq : root q ≡ root a).
            subst At (sym (e ∙ moved.there q hq eq))
            (subst (λ (s : ℕ). s + K.most ≤ count root' (root b) n * K.most) (size_turned K L (step' q) (step' p))
            (near_one q p hq hp eq (sym (moved.stays p hp xp) ∙ e ∙ moved.there q hq eq))))
            (λ (xq : root q ≡ root a → ⊥).
            subst At (sym (moved.stays p hp xp)) (near_none p q hp hq xp xq (sym (moved.stays p hp xp) ∙ e ∙ moved.stays q hq xq)))
            (cases_eq (root q) (root a)))
            (cases_eq (root p) (root a))

        pub joined_sound : Sound K n root' step'
        joined_sound = record { inside = inside'; top = top'; still = still'; near = near' }
