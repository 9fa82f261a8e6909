-- What runs where an observer of a bean is notified (Jakarta CDI 4.0, Observer methods).
use Rattle.std.specs.Prelude.{ℕ, ◌==◌, List, Option, Some, None, option_map, option_and_then}
use Rattle.std.specs.List.{find, filter_map}
use Rattle.cdi_beans.specs.declared.bean.ObserverMethod.{ObserverMethod}
use Rattle.cdi_plans.specs.Chains.{ChainTables}
use Rattle.cdi_deployment.specs.declared.deployment.Class.{Class}
use Rattle.cdi_deployment.specs.declared.deployment.Member.{Member}
use Rattle.cdi_deployment.specs.declared.deployment.Member.TheVariants as members
use Rattle.cdi_deployment.specs.declared.deployment.Observer.{Observer}
use Rattle.cdi_types.specs.Line.{class_named}
use Rattle.cdi_planner.specs.Codes.{injected_method}
use Rattle.cdi_plans.specs.declared.plan.InjectedMethod.{InjectedMethod}

abbrev pub as_observer : Member → Option Observer
as_observer (members.Observer o) = Some o
as_observer m = None

-- the observer of a name among some members
abbrev pub observer_named : ℕ → List Member → Option Observer
observer_named name ms = find (λ o. o.name == name) (filter_map as_observer ms)

abbrev pub observer_in : ℕ → Class → Option (Class × Observer)
observer_in name c = option_map (λ o. (c, o)) (observer_named name c.members)

-- the observer as its class declares it, with that class; of classes with one name the first counts
abbrev pub observer_of : List Class → ObserverMethod → Option (Class × Observer)
observer_of classes o = option_and_then (observer_in o.name) (class_named classes o.class)

-- what runs where an observer is notified on an instance of a bean
abbrev pub observer_method : ChainTables → ℕ → Class × Observer → InjectedMethod
observer_method t bean (c, o) = injected_method t bean c o.name o.body o.params
