-- The observers of a bean list, each with its declaration.
use Rattle.std.proofs.Common.{◌≡◌, ◌⊎◌, inl, inr, List, ◌∷◌, Some, refl, ap}
use Rattle.std.proofs.lemmas.Option.{same_Some}
use Rattle.std.specs.List.{filter_map}
use Rattle.cdi_bean_check.specs.Inherited.{AreMembersOf}
use Rattle.cdi_beans.specs.ObserverMethods.{AreObserversOf, IsObserverOf, observer}
use Rattle.cdi_beans.specs.declared.bean.ObserverMethod.{ObserverMethod}
use Rattle.cdi_deployment.specs.declared.deployment.Class.{Class}
use Rattle.cdi_deployment.specs.declared.deployment.Deployment.{Deployment}
use Rattle.cdi_deployment.specs.declared.deployment.Member.{Member}
use Rattle.cdi_deployment.specs.declared.deployment.Member.TheVariants as members
use Rattle.cdi_deployment.specs.declared.deployment.Observer.{Observer}
use Rattle.cdi_planner.specs.Observers.{as_observer}
use Rattle.cdi_quals.specs.declared.types.QualifierType.{QualifierType}
use Rattle.cdi_types.specs.Declarations.{declarations_of}
use Rattle.cdi_accepted.proofs.Beans.{before}
use Rattle.cdi_accepted.proofs.Lists.{Among, among_parts}

-- an observer that one of the classes has
pub record IsObserverIn (d : Deployment) (qualifiers : List QualifierType) (cs : List Class) (o : ObserverMethod) : Type 0 where
  pub bean : Class
  pub listed : Among bean cs
  pub has : List (Class × Member)
  pub are : AreMembersOf d.classes (declarations_of d) bean has
  pub declared : Class × Observer
  pub stands : Among declared (filter_map observer has)
  pub is : IsObserverOf d qualifiers bean declared o

pub observer_in_list : (d : Deployment) (qualifiers : List QualifierType) (cs : List Class) (os : List ObserverMethod) → AreObserversOf d qualifiers cs os → (o : ObserverMethod) → Among o os → IsObserverIn d qualifiers cs o
observer_in_list d qualifiers cs os AreObserversOf.none o a = absurd a
observer_in_list d qualifiers cs os (AreObserversOf.next {c = c} {cs = more_cs} {has = has} {rest = rest} first are zip more) o a =
    by (observer_in_list d qualifiers more_cs rest more o) (among_parts first rest o a)
  where
    by : (Among o rest → IsObserverIn d qualifiers more_cs o) → Among o first ⊎ Among o rest → IsObserverIn d qualifiers (c ∷ more_cs) o
    by rec (inl q) =
        let x = before (IsObserverOf d qualifiers c) (filter_map observer has) first o zip q in
        record { bean = c; listed = inl refl; has = has; are = are; declared = x.item; stands = x.stands; is = x.related }
    by rec (inr q) =
        let x = rec q in
        record { bean = x.bean; listed = inr x.listed; has = x.has; are = x.are; declared = x.declared; stands = x.stands; is = x.is }

pub as_member : (p : Class × Member) (declared : Class × Observer) → observer p ≡ Some declared → p ≡ (declared.0, members.Observer declared.1)
as_member (c, members.Observer o) declared e = ap (λ (x : Class × Observer). (x.0, members.Observer x.1)) (same_Some (c, o) declared e)
as_member (c, members.Method m) declared e = absurd cc
as_member (c, members.Initializer m) declared e = absurd cc
as_member (c, members.PostConstruct m) declared e = absurd cc
as_member (c, members.PreDestroy m) declared e = absurd cc
as_member (c, members.Producer m) declared e = absurd cc
as_member (c, members.ProducerField m) declared e = absurd cc
as_member (c, members.Disposer m) declared e = absurd cc

pub of_as_observer : (m : Member) (o : Observer) → as_observer m ≡ Some o → m ≡ members.Observer o
of_as_observer (members.Observer x) o e = ap (λ k. members.Observer k) (same_Some x o e)
of_as_observer (members.Method m) o e = absurd cc
of_as_observer (members.Initializer m) o e = absurd cc
of_as_observer (members.PostConstruct m) o e = absurd cc
of_as_observer (members.PreDestroy m) o e = absurd cc
of_as_observer (members.Producer m) o e = absurd cc
of_as_observer (members.ProducerField m) o e = absurd cc
of_as_observer (members.Disposer m) o e = absurd cc
