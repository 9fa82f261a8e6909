-- Of the members of a bean only the observers count as observers.
use Rattle.std.proofs.Common.{◌≡◌, false, List, None, refl}
use Rattle.std.specs.List.{filter_map}
use Rattle.cdi_deployment.specs.declared.deployment.Class.{Class}
use Rattle.cdi_deployment.specs.declared.deployment.Member.{Member}
use Rattle.cdi_deployment.specs.declared.deployment.Member.TheVariants as members
use Rattle.cdi_types.specs.Kinds.{has_kind, of_kind}
use Rattle.cdi_types.specs.declared.kind.MemberKind.TheVariants as kinds
use Rattle.cdi_types.proofs.KindLists.{filter_map-of_kind}
use Rattle.cdi_beans.specs.ObserverMethods.{observer}

others : (d : Class × Member) → has_kind kinds.Observer d.1 ≡ false → observer d ≡ None
others (c, members.Method m) e = refl
others (c, members.Initializer i) e = refl
others (c, members.PostConstruct k) e = refl
others (c, members.PreDestroy k) e = refl
others (c, members.Producer p) e = refl
others (c, members.ProducerField p) e = refl
others (c, members.Disposer x) e = refl
others (c, members.Observer o) e = absurd cc

pub observers-of_kind : (has : List (Class × Member)) → filter_map observer (of_kind kinds.Observer has) ≡ filter_map observer has
observers-of_kind has = filter_map-of_kind kinds.Observer observer others has
