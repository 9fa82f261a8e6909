-- The instance of an interceptor that stands round an instance: the first of its dependents that is one.
use Rattle.std.specs.Prelude.{ℕ, List, [], ◌∷◌, Option, Some, None, true, false}
use Rattle.cdi_store.specs.declared.instance.Instance.{Instance}
use Rattle.cdi_machine.specs.Bodies.{is_of}
use Rattle.cdi_machine.specs.World.{World, instance_at}

abbrev pub first_in : World → ℕ → List ℕ → Option ℕ
first_in w i [] = None
first_in w i (n ∷ ns) = elim (is_of i (instance_at w n)) [ true ↦ Some n | false ↦ first_in w i ns ]

abbrev pub interceptor_in : World → ℕ → Option Instance → Option ℕ
interceptor_in w i None = None
interceptor_in w i (Some o) = first_in w i o.dependents
