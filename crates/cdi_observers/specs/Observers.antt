-- Which observers hear an event (Jakarta CDI 4.0, Observer resolution).
use Rattle.std.specs.Prelude.{ℕ, ◌≡◌, true, List, [], ◌∷◌}
use Rattle.cdi_base.specs.BuiltIn.{number_of}
use Rattle.cdi_base.specs.declared.built_in.BuiltIn.TheVariants as names
use Rattle.cdi_beans.specs.declared.bean.ObserverMethod.{ObserverMethod}
use Rattle.cdi_enable.specs.Enablement.{Enablement, IsEnabledClass}
use Rattle.cdi_quals.specs.Qualifiers.{has_all}
use Rattle.cdi_quals.specs.declared.qualifier.Qualifier.{Qualifier}
use Rattle.cdi_types.specs.ListsThose.{ListsThose}
use Rattle.cdi_types.specs.Subtype.{IsSubtype}
use Rattle.cdi_types.specs.declared.declaration.TypeDeclaration.{TypeDeclaration}

-- the types of a deployment, and the observers of its enabled beans
pub record ObserverTable : Type 0 where
  pub types : List TypeDeclaration
  pub observers : List ObserverMethod

-- those of some observers whose beans are enabled, in their order
abbrev pub AreEnabledOnes : Enablement → List ObserverMethod → List ObserverMethod → Type 0
AreEnabledOnes e observers enabled =
    ListsThose (λ o. IsEnabledClass e o.bean true) observers enabled

pub record IsTableOf (types : List TypeDeclaration) (observers : List ObserverMethod)
    (e : Enablement) (table : ObserverTable) : Type 0 where
  pub types_are : table.types ≡ types
  pub enabled : AreEnabledOnes e observers table.observers

abbrev pub any : Qualifier
any = record { name = number_of names.Any; members = [] }

-- an observer hears an event of a class with qualifiers: its type is among those of the class, and the event, which also has Any, has
-- its qualifiers
pub record Hears (types : List TypeDeclaration) (class : ℕ) (qualifiers : List Qualifier)
    (o : ObserverMethod) : Type 0 where
  pub type : IsSubtype types class o.ty
  pub had : has_all (any ∷ qualifiers) o.qualifiers ≡ true
