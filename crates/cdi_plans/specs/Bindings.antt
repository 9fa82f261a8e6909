-- The interceptor bindings of classes and of their members (Jakarta Interceptors 2.1, Interceptor Bindings).
use Rattle.std.specs.Prelude.{◌==◌, ◌&&◌, Bool, not, List, ◌++◌, filter, Option, Some, None, option_map}
use Rattle.std.specs.List.{filter_map, list_any}
use Rattle.cdi_base.specs.declared.uses.Use.{Use}
use Rattle.cdi_bean_check.specs.Qualifiers.{full_uses}
use Rattle.cdi_deployment.specs.declared.deployment.Class.{Class}
use Rattle.cdi_deployment.specs.declared.deployment.Member.{Member}
use Rattle.cdi_deployment.specs.declared.deployment.Member.TheVariants as members
use Rattle.cdi_deployment.specs.Member.{member_name}
use Rattle.cdi_quals.specs.Qualifiers.{same_binding}
use Rattle.cdi_quals.specs.declared.qualifier.Qualifier.{Qualifier}
use Rattle.cdi_quals.specs.declared.types.QualifierType.{QualifierType}
use Rattle.cdi_plans.specs.declared.bindings.ClassBindings.{ClassBindings}
use Rattle.cdi_plans.specs.declared.bindings.MemberBindings.{MemberBindings}

-- the bindings of a member whose calls are intercepted: a business method, a producer, a disposer or an observer
abbrev pub bindings_of : Member → Option (List Use)
bindings_of (members.Method m) = Some m.bindings
bindings_of (members.Producer p) = Some p.bindings
bindings_of (members.Disposer d) = Some d.bindings
bindings_of (members.Observer o) = Some o.bindings
bindings_of _ = None

abbrev pub member_bindings : List QualifierType → Member → Option MemberBindings
member_bindings types m =
    option_map (λ uses. record { name = member_name m; bindings = full_uses types uses })
    (bindings_of m)

-- the bindings of a class, and those of its members
abbrev pub class_bindings : List QualifierType → Class → ClassBindings
class_bindings types c =
    record {
      name = c.name;
      bindings = full_uses types c.bindings;
      members = filter_map (member_bindings types) c.members;
    }

abbrev pub names_type : List Qualifier → Qualifier → Bool
names_type own q = list_any (λ o. o.name == q.name) own

-- a class-level binding is what is required, and the member names none of its type
abbrev pub is_met_by_class : List Qualifier → Qualifier → Qualifier → Bool
is_met_by_class own required q = not (names_type own q) && same_binding required q

-- what a member has: its own bindings, and those of the class of other types
abbrev pub bindings_had : List Qualifier → List Qualifier → List Qualifier
bindings_had own of_class = own ++ filter (λ q. not (names_type own q)) of_class
