-- What the laws of a kind give. Assumes nothing.
use Rattle.std.proofs.Common.{◌≡◌, ℕ, sym, ◌∙◌, subst}
use Rattle.steps.specs.Kind.{Kind, Lawful}

-- a value that is a step times that of a root, where both have other names
pub carry : (K : Kind) (v : ℕ → K.Element) (x s s' : K.Element) (r r' : ℕ) → r ≡ r' → s ≡ s' → K.same x (K.mul s (v r)) → K.same x (K.mul s' (v r'))
carry K v x s s' r r' er es f = subst (λ (y : K.Element). K.same x (K.mul y (v r'))) es (subst (λ (q : ℕ). K.same x (K.mul s (v q))) er f)

module _ (K : Kind) (L : Lawful K) where
  abbrev pub Eq : K.Element → K.Element → Type 0
  Eq x y = K.same x y

  pub on_left : (x y z : K.Element) → Eq x y → Eq (K.mul z x) (K.mul z y)
  on_left x y z e = L.mul_same z z x y (L.rfl z) e

  pub on_right : (x y z : K.Element) → Eq x y → Eq (K.mul x z) (K.mul y z)
  on_right x y z e = L.mul_same x y z z e (L.rfl z)

  -- x⁻¹ (x y) = y
  pub undo : (x y : K.Element) → Eq (K.mul (K.inv x) (K.mul x y)) y
  undo x y = L.join _ _ _ (L.swap _ _ (L.assoc (K.inv x) x y)) (L.join _ _ _ (on_right _ _ y (L.inverse x)) (L.left y))

  pub cancel : (x y z : K.Element) → Eq (K.mul x y) (K.mul x z) → Eq y z
  cancel x y z e = L.join _ _ _ (L.swap _ _ (undo x y)) (L.join _ _ _ (on_left _ _ (K.inv x) e) (undo x z))

  -- x (x⁻¹ y) = y
  pub redo : (x y : K.Element) → Eq (K.mul x (K.mul (K.inv x) y)) y
  redo x y = cancel (K.inv x) (K.mul x (K.mul (K.inv x) y)) y (undo x (K.mul (K.inv x) y))

  pub right : (x : K.Element) → Eq (K.mul x K.one) x
  right x = cancel (K.inv x) (K.mul x K.one) x (L.join _ _ _ (undo x K.one) (L.swap _ _ (L.inverse x)))

  -- x x⁻¹ = 1
  pub right_inverse : (x : K.Element) → Eq (K.mul x (K.inv x)) K.one
  right_inverse x =
      cancel (K.inv x) (K.mul x (K.inv x)) K.one (L.join _ _ _ (undo x (K.inv x)) (L.swap _ _ (right (K.inv x))))

  pub inv_mul : (x y : K.Element) → Eq (K.inv (K.mul x y)) (K.mul (K.inv y) (K.inv x))
  inv_mul x y =
      cancel (K.mul x y) (K.inv (K.mul x y)) (K.mul (K.inv y) (K.inv x))
      (L.join _ _ _ (right_inverse (K.mul x y))
      (L.swap _ _ (L.join _ _ _ (L.assoc x y (K.mul (K.inv y) (K.inv x)))
      (L.join _ _ _ (on_left _ _ x (redo y (K.inv x))) (right_inverse x)))))

  pub inv_inv : (x : K.Element) → Eq (K.inv (K.inv x)) x
  inv_inv x = cancel (K.inv x) (K.inv (K.inv x)) x (L.join _ _ _ (right_inverse (K.inv x)) (L.swap _ _ (L.inverse x)))

  pub inv_one : Eq (K.inv K.one) K.one
  inv_one = L.join _ _ _ (L.swap _ _ (right (K.inv K.one))) (L.inverse K.one)

  -- (x t) (y t)⁻¹ = x y⁻¹
  pub across : (x y t : K.Element) → Eq (K.mul (K.mul x t) (K.inv (K.mul y t))) (K.mul x (K.inv y))
  across x y t =
      L.join _ _ _ (on_left _ _ (K.mul x t) (inv_mul y t))
      (L.join _ _ _ (L.assoc x t (K.mul (K.inv t) (K.inv y))) (on_left _ _ x (redo t (K.inv y))))

  -- (x y⁻¹)⁻¹ = y x⁻¹
  pub turned : (x y : K.Element) → Eq (K.inv (K.mul x (K.inv y))) (K.mul y (K.inv x))
  turned x y = L.join _ _ _ (inv_mul x (K.inv y)) (on_right _ _ (K.inv x) (inv_inv y))

  pub cancel_right : (x y w : K.Element) → Eq (K.mul x w) (K.mul y w) → Eq x y
  cancel_right x y w e = L.join _ _ _ (L.swap _ _ (back x)) (L.join _ _ _ (on_right _ _ (K.inv w) e) (back y))
    where
      back : (z : K.Element) → Eq (K.mul (K.mul z w) (K.inv w)) z
      back z = L.join _ _ _ (L.assoc z w (K.inv w)) (L.join _ _ _ (on_left _ _ z (right_inverse w)) (right z))

  pub size_turned : (x y : K.Element) → K.size (K.mul x (K.inv y)) ≡ K.size (K.mul y (K.inv x))
  size_turned x y = sym (L.size_inv (K.mul x (K.inv y))) ∙ L.size_same _ _ (turned x y)

  -- x (t y) over t = a⁻¹ (g b): ((x a⁻¹) (g (b y)))
  pub spread : (x a g b y : K.Element) → Eq (K.mul (K.mul x (K.mul (K.inv a) (K.mul g b))) y) (K.mul (K.mul x (K.inv a)) (K.mul g (K.mul b y)))
  spread x a g b y =
      L.join _ _ _ (on_right _ _ y (L.swap _ _ (L.assoc x (K.inv a) (K.mul g b))))
      (L.join _ _ _ (L.assoc (K.mul x (K.inv a)) (K.mul g b) y) (on_left _ _ (K.mul x (K.inv a)) (L.assoc g b y)))
