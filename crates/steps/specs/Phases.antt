-- The kind of phases: the group of two elements, where `true` turns a phase over. Assumes nothing.
use Rattle.std.specs.Prelude.{◌≡◌, ℕ, Bool, true, false, not, List, codes}
use Rattle.steps.specs.Kind.{Kind}
use Rattle.steps.specs.declared.phases.Phase.{Phase}
use Rattle.steps.specs.declared.phases.Phase.TheVariants.{Same, Opposite}

-- whether a step turns the phase over
abbrev pub flips : Phase → Bool
flips Same = false
flips Opposite = true

-- what a step is called
abbrev pub words : Phase → List ℕ
words Same = codes "in phase"
words Opposite = codes "opposite"

abbrev pub xor : Bool → Bool → Bool
xor true b = not b
xor false b = b

abbrev pub phases : Kind
phases = record { Element = Bool; same = λ x y. x ≡ y; one = false; mul = xor; inv = λ x. x; size = λ x. 0; most = 0 }
