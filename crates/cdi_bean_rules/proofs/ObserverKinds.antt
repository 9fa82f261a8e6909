-- Of the members of a bean only the observers count as observers.
use Rattle.std.proofs.Common.{◌≡◌, false, List, None, refl}
use Rattle.cdi_deployment.specs.declared.deployment.Class.{Class}
use Rattle.cdi_deployment.specs.declared.deployment.Member.{Member}
use Rattle.cdi_deployment.specs.declared.deployment.Member.TheVariants as members
use Rattle.cdi_types.specs.Kinds.{has_kind, of_kind}
use Rattle.cdi_types.specs.declared.kind.MemberKind.TheVariants as kinds
use Rattle.cdi_types.proofs.KindLists.{filter_map-of_kind}
use Rattle.cdi_bean_rules.specs.Limits.{is_observer}
use Rattle.cdi_bean_rules.specs.Observers.{conditional_place, conditional_places}

pub are_observers : (d : Class × Member) → has_kind kinds.Observer d.1 ≡ is_observer d.1
are_observers (c, members.Method m) = refl
are_observers (c, members.Initializer i) = refl
are_observers (c, members.PostConstruct k) = refl
are_observers (c, members.PreDestroy k) = refl
are_observers (c, members.Producer p) = refl
are_observers (c, members.ProducerField p) = refl
are_observers (c, members.Disposer x) = refl
are_observers (c, members.Observer o) = refl

others : (d : Class × Member) → has_kind kinds.Observer d.1 ≡ false → conditional_place d ≡ None
others (c, members.Method m) e = refl
others (c, members.Initializer i) e = refl
others (c, members.PostConstruct k) e = refl
others (c, members.PreDestroy k) e = refl
others (c, members.Producer p) e = refl
others (c, members.ProducerField p) e = refl
others (c, members.Disposer x) e = refl
others (c, members.Observer o) e = absurd cc

pub conditional-of_accepted : (has : List (Class × Member)) → conditional_places (of_kind kinds.Observer has) ≡ conditional_places has
conditional-of_accepted has = filter_map-of_kind kinds.Observer conditional_place others has
