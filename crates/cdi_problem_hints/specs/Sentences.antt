-- What is told of names that aren't known.
use Rattle.std.specs.Prelude.{ℕ, ◌==◌, List, [], ◌++◌, codes, map, Option, Some, None, if◌then◌else◌}
use Rattle.std.specs.List.{flat_map}
use Rattle.cdi_base.specs.BuiltIn.{number_of}
use Rattle.cdi_base.specs.declared.built_in.BuiltIn.TheVariants as built_in
use Rattle.cdi_deployment.specs.Lists.{is_declared_class}
use Rattle.cdi_deployment.specs.declared.deployment.Deployment.{Deployment}
use Rattle.cdi_name_uses.specs.Groups.{group_names}
use Rattle.cdi_name_uses.specs.declared.group.Annotation.TheVariants as annotations
use Rattle.cdi_name_uses.specs.declared.group.Group.{Group}
use Rattle.cdi_name_uses.specs.declared.group.Group.TheVariants as groups
use Rattle.cdi_name_uses.specs.declared.name_use.NameUse.{NameUse}
use Rattle.cdi_base.specs.Near.{nearest}
use Rattle.cdi_problems.specs.Elements.{Element}
use Rattle.cdi_problems.specs.Places.{name_text}

abbrev pub group_word : Group → List ℕ
group_word groups.Superclass = codes "class"
group_word groups.BeanClass = codes "class"
group_word groups.Interface = codes "interface"
group_word groups.Type = codes "type"
group_word (groups.Annotation annotations.Binding) = codes "binding"
group_word (groups.Annotation annotations.Qualifier) = codes "qualifier"
group_word (groups.Annotation annotations.EventQualifier) = codes "qualifier"
group_word (groups.MemberOf annotation name) = codes "member"
group_word groups.OwnMember = codes "member"
group_word groups.OwnField = codes "field"
group_word groups.Interceptor = codes "interceptor"
group_word groups.Script = codes "script"

abbrev pub undeclared : List ℕ
undeclared = codes "isn't declared"

-- what is wrong with a name that isn't of its group
abbrev pub fault_word_in : Deployment → ℕ → Group → List ℕ
fault_word_in d name groups.Superclass =
    if is_declared_class d.classes name then codes "is final" else undeclared
fault_word_in d name groups.BeanClass =
    if is_declared_class d.classes name then codes "is no bean" else undeclared
fault_word_in d name (groups.Annotation annotations.EventQualifier) =
    if name == number_of built_in.Default then codes "is none of an event" else undeclared
fault_word_in d name (groups.MemberOf annotation owner) = codes "isn't one of "
fault_word_in d name _ = undeclared

abbrev pub fault_word : Deployment → NameUse → List ℕ
fault_word d u = fault_word_in d u.name u.group

-- the annotation of which a name has to be a member
abbrev pub owner_text : List (List ℕ) → Group → List ℕ
owner_text names (groups.MemberOf annotation name) = name_text names name
owner_text names _ = []

-- the known name that was probably meant
abbrev pub meant : List (List ℕ) → List ℕ → ℕ → Option (List ℕ)
meant names known name = nearest (name_text names name) (map (name_text names) known)

abbrev pub suggestion : Option (List ℕ) → List ℕ
suggestion None = []
suggestion (Some near) = codes " (did you mean " ++ (near ++ codes "?)")

-- a name, what is wrong with it, and what was probably meant
abbrev pub sentence : Deployment → Element → NameUse → List ℕ
sentence d e u =
    codes "; the " ++ (group_word u.group
    ++ (codes " " ++ (name_text d.names u.name
    ++ (codes " " ++ (fault_word d u ++ (owner_text d.names u.group
    ++ suggestion (meant d.names (group_names d e u.group) u.name)))))))

abbrev pub sentences : Deployment → Element → List NameUse → List ℕ
sentences d e unknown = flat_map (sentence d e) unknown
