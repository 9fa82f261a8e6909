-- What runs where an instance is complete, and where it is destroyed.
use Rattle.std.specs.Prelude.{ℕ, ◌&&◌, Bool, true, false, List, [], ◌∷◌}
use Rattle.cdi_base.specs.declared.place.InterceptorMethod.{InterceptorMethod}
use Rattle.cdi_machine.specs.Tables.{Code}
use Rattle.cdi_machine.specs.declared.step.Lifecycle.{Lifecycle}
use Rattle.cdi_machine.specs.declared.step.Step.{Step}
use Rattle.cdi_machine.specs.declared.step.Step.TheVariants as steps
use Rattle.cdi_numbered_plans.specs.Machine.{has_none}
use Rattle.cdi_plans.specs.Chains.{ChainTables, life_chain}

-- the chain of a bean for a method of interceptors, with these callbacks
abbrev pub life_with : ChainTables → ℕ → InterceptorMethod → List Code → Lifecycle
life_with t bean method callbacks =
    record { chain = life_chain t bean method; callbacks = callbacks }

-- its step, if something runs there
abbrev pub completed_if : Bool → Lifecycle → List Step
completed_if true life = []
completed_if false life = steps.Complete life ∷ []

abbrev pub completed : Lifecycle → List Step
completed life = completed_if (has_none life.chain && has_none life.callbacks) life
