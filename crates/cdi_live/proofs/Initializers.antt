-- Of the members of a bean only the initializers give points of initializers.
use Rattle.std.proofs.Common.{◌≡◌, false, List, [], refl}
use Rattle.std.specs.List.{flat_map}
use Rattle.cdi_deployment.specs.declared.deployment.Class.{Class}
use Rattle.cdi_deployment.specs.declared.deployment.Member.{Member}
use Rattle.cdi_deployment.specs.declared.deployment.Member.TheVariants as members
use Rattle.cdi_types.specs.Kinds.{has_kind, of_kind}
use Rattle.cdi_types.specs.declared.kind.MemberKind.TheVariants as kinds
use Rattle.cdi_types.proofs.KindLists.{flat_map-of_kind}
use Rattle.cdi_live.specs.OwnPoints.{initializer_points}

others : (p : Class × Member) → has_kind kinds.Initializer p.1 ≡ false → initializer_points p ≡ []
others (c, members.Method m) e = refl
others (c, members.Initializer i) e = absurd cc
others (c, members.PostConstruct k) e = refl
others (c, members.PreDestroy k) e = refl
others (c, members.Producer p) e = refl
others (c, members.ProducerField p) e = refl
others (c, members.Disposer x) e = refl
others (c, members.Observer o) e = refl

pub points-of_initializers : (has : List (Class × Member)) → flat_map initializer_points (of_kind kinds.Initializer has) ≡ flat_map initializer_points has
points-of_initializers has = flat_map-of_kind kinds.Initializer initializer_points others has
