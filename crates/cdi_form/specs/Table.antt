-- The form of a deployment as a table: the keys of each kind of object.
use Rattle.std.specs.Prelude.{ℕ, Bool, true, false, List, [], ◌∷◌, codes}
use Rattle.cdi_form.specs.declared.form.Kind.{Kind}
use Rattle.cdi_form.specs.declared.form.Kind.TheVariants as kinds
use Rattle.cdi_form.specs.declared.form.Part.{Part}
use Rattle.cdi_form.specs.declared.form.Part.TheVariants as parts
use Rattle.cdi_form.specs.declared.table.Row.{Row as DeclaredRow}

-- a key, what stands there, and whether it has to be there
pub record Row : Type 0 where
  pub key : List ℕ
  pub part : Part
  pub is_required : Bool

-- what a row of the code says
abbrev pub row_of : DeclaredRow → Row
row_of r = record { key = r.key.now; part = r.part; is_required = r.is_required }

-- a key that has to be there
abbrev pub required : List ℕ → Part → Row
required key part = record { key = key; part = part; is_required = true }

-- a key that may be missing
abbrev pub optional : List ℕ → Part → Row
optional key part = record { key = key; part = part; is_required = false }

abbrev pub rows : Kind → List Row
rows kinds.Deployment =
    optional (codes "form") parts.FormNumber
    ∷ optional (codes "interfaces") (parts.Objects kinds.Interface)
    ∷ optional (codes "qualifiers") (parts.Objects kinds.AnnotationType)
    ∷ optional (codes "bindings") (parts.Objects kinds.AnnotationType)
    ∷ optional (codes "exceptions") (parts.Objects kinds.Exception)
    ∷ optional (codes "classes") (parts.Objects kinds.Class)
    ∷ optional (codes "interceptors") (parts.Objects kinds.Interceptor)
    ∷ optional (codes "selected") parts.Names
    ∷ optional (codes "order") parts.Names
    ∷ optional (codes "scripts") (parts.Objects kinds.Script) ∷ []
rows kinds.Interface =
    required (codes "name") parts.Name
    ∷ optional (codes "extends") parts.Names ∷ []
rows kinds.AnnotationType =
    required (codes "name") parts.Name
    ∷ optional (codes "members") parts.Names
    ∷ optional (codes "nonbinding") parts.Names ∷ []
rows kinds.Exception =
    required (codes "name") parts.Name
    ∷ optional (codes "checked") parts.Mark ∷ []
rows kinds.Class =
    required (codes "name") parts.Name
    ∷ optional (codes "extends") parts.Name
    ∷ optional (codes "implements") parts.Names
    ∷ optional (codes "abstract") parts.Mark
    ∷ optional (codes "final") parts.Mark
    ∷ optional (codes "bindings") parts.Uses
    ∷ optional (codes "bean") (parts.Object kinds.Bean)
    ∷ optional (codes "fields") (parts.Objects kinds.Field)
    ∷ optional (codes "inject") (parts.Objects kinds.InjectedField)
    ∷ optional (codes "constructor") (parts.Object kinds.Constructor)
    ∷ optional (codes "members") parts.Members ∷ []
rows kinds.Bean =
    optional (codes "scope") parts.Scope
    ∷ optional (codes "quals") parts.Uses
    ∷ optional (codes "typed") parts.Names
    ∷ optional (codes "alternative") parts.Mark
    ∷ optional (codes "priority") parts.WholeNumber
    ∷ optional (codes "specializes") parts.Mark ∷ []
rows kinds.Field =
    required (codes "name") parts.Name
    ∷ optional (codes "value") parts.Value ∷ []
rows kinds.InjectedField =
    required (codes "name") parts.Name
    ∷ required (codes "type") parts.Name
    ∷ optional (codes "quals") parts.Uses ∷ []
rows kinds.Constructor =
    optional (codes "params") (parts.Objects kinds.Point)
    ∷ optional (codes "body") parts.Name ∷ []
rows kinds.Point =
    required (codes "type") parts.Name
    ∷ optional (codes "quals") parts.Uses ∷ []
rows kinds.Interceptor =
    required (codes "name") parts.Name
    ∷ required (codes "bindings") parts.SomeUses
    ∷ optional (codes "priority") parts.WholeNumber
    ∷ optional (codes "fields") (parts.Objects kinds.Field)
    ∷ optional (codes "inject") (parts.Objects kinds.InjectedField)
    ∷ optional (codes "invoke") parts.Name
    ∷ optional (codes "construct") parts.Name
    ∷ optional (codes "post") parts.Name
    ∷ optional (codes "pre") parts.Name ∷ []
rows kinds.Script =
    required (codes "name") parts.Name
    ∷ required (codes "steps") parts.Steps ∷ []
rows kinds.Method =
    required (codes "kind") parts.MemberKind
    ∷ required (codes "name") parts.Name
    ∷ required (codes "body") parts.Name
    ∷ optional (codes "args") parts.ArgumentCount
    ∷ optional (codes "bindings") parts.Uses ∷ []
rows kinds.Initializer =
    required (codes "kind") parts.MemberKind
    ∷ required (codes "name") parts.Name
    ∷ required (codes "body") parts.Name
    ∷ optional (codes "params") (parts.Objects kinds.Point) ∷ []
rows kinds.PostConstruct =
    required (codes "kind") parts.MemberKind
    ∷ required (codes "name") parts.Name
    ∷ required (codes "body") parts.Name ∷ []
rows kinds.PreDestroy =
    required (codes "kind") parts.MemberKind
    ∷ required (codes "name") parts.Name
    ∷ required (codes "body") parts.Name ∷ []
rows kinds.Producer =
    required (codes "kind") parts.MemberKind
    ∷ required (codes "name") parts.Name
    ∷ required (codes "body") parts.Name
    ∷ required (codes "type") parts.Name
    ∷ optional (codes "quals") parts.Uses
    ∷ optional (codes "typed") parts.Names
    ∷ optional (codes "scope") parts.Scope
    ∷ optional (codes "params") (parts.Objects kinds.Point)
    ∷ optional (codes "bindings") parts.Uses ∷ []
rows kinds.ProducerField =
    required (codes "kind") parts.MemberKind
    ∷ required (codes "name") parts.Name
    ∷ required (codes "field") parts.Name
    ∷ required (codes "type") parts.Name
    ∷ optional (codes "quals") parts.Uses
    ∷ optional (codes "typed") parts.Names
    ∷ optional (codes "scope") parts.Scope ∷ []
rows kinds.Disposer =
    required (codes "kind") parts.MemberKind
    ∷ required (codes "name") parts.Name
    ∷ required (codes "body") parts.Name
    ∷ required (codes "type") parts.Name
    ∷ optional (codes "quals") parts.Uses
    ∷ optional (codes "params") (parts.Objects kinds.Point)
    ∷ optional (codes "bindings") parts.Uses ∷ []
rows kinds.Observer =
    required (codes "kind") parts.MemberKind
    ∷ required (codes "name") parts.Name
    ∷ required (codes "body") parts.Name
    ∷ required (codes "type") parts.Name
    ∷ optional (codes "quals") parts.Uses
    ∷ optional (codes "params") (parts.Objects kinds.Point)
    ∷ optional (codes "priority") parts.WholeNumber
    ∷ optional (codes "if_exists") parts.Mark
    ∷ optional (codes "bindings") parts.Uses ∷ []
