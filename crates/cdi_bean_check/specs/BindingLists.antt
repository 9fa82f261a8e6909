-- Lists of interceptor bindings.
use Rattle.std.specs.Prelude.{Bool, false, ◌==◌, ◌||◌, List, [], ◌∷◌, IsTrue}
use Rattle.std.specs.List.{list_any}
use Rattle.cdi_base.specs.declared.uses.Use.{Use}
use Rattle.cdi_deployment.specs.declared.deployment.Member.{Member}
use Rattle.cdi_deployment.specs.declared.deployment.Member.TheVariants as members
use Rattle.cdi_problems.specs.Elements.{Element}

-- two uses of one type
abbrev pub names_type_twice : List Use → Bool
names_type_twice [] = false
names_type_twice (u ∷ others) =
    list_any (λ other. other.name == u.name) others || names_type_twice others

abbrev pub bindings_of_member : Member → List Use
bindings_of_member (members.Method m) = m.bindings
bindings_of_member (members.Producer p) = p.bindings
bindings_of_member (members.Disposer m) = m.bindings
bindings_of_member (members.Observer o) = o.bindings
bindings_of_member m = []

abbrev pub bindings_of : Element → List Use
bindings_of (Element.AClass i c) = c.bindings
bindings_of (Element.AMember i c m) = bindings_of_member m
bindings_of (Element.AnInterceptor i j) = j.bindings
bindings_of e = []

-- P11 TwoBindingsOfOneType: a list of bindings names one type twice
abbrev pub HasTwoBindingsOfOneType : Element → Type 0
HasTwoBindingsOfOneType e = IsTrue (names_type_twice (bindings_of e))
