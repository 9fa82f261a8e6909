-- The disposers of beans, with the producers that they serve (Jakarta CDI 4.0, Disposer methods).
use Rattle.std.specs.Prelude.{ℕ, ◌≡◌, List, map, Option, Some, None}
use Rattle.std.specs.List.{filter_map}
use Rattle.cdi_deployment.specs.declared.deployment.Class.{Class}
use Rattle.cdi_deployment.specs.declared.deployment.Deployment.{Deployment}
use Rattle.cdi_deployment.specs.declared.deployment.Disposer.{Disposer}
use Rattle.cdi_deployment.specs.declared.deployment.Member.{Member}
use Rattle.cdi_deployment.specs.declared.deployment.Member.TheVariants as members
use Rattle.cdi_deployment.specs.Member.{member_name}
use Rattle.cdi_quals.specs.declared.types.QualifierType.{QualifierType}
use Rattle.cdi_types.specs.ListsThose.{ListsThose}
use Rattle.cdi_types.specs.Declarations.{declarations_of}
use Rattle.cdi_types.specs.declared.declaration.TypeDeclaration.{TypeDeclaration}
use Rattle.cdi_bean_rules.specs.Disposers.{Serves}
use Rattle.cdi_beans.specs.declared.bean.DisposerMethod.{DisposerMethod}

abbrev pub disposer : Class → Member → Option (Class × Disposer)
disposer c (members.Disposer m) = Some (c, m)
disposer c m = None

abbrev pub disposers_in : Class → List (Class × Disposer)
disposers_in c = filter_map (disposer c) c.members

-- the names of those of some members that a disposer serves
pub record AreServed (types : List TypeDeclaration) (qualifiers : List QualifierType) (m : Disposer)
    (ms : List Member) (names : List ℕ) : Type 0 where
  pub producers : List Member
  pub served : ListsThose (Serves types qualifiers m) ms producers
  pub are : names ≡ map member_name producers

-- a disposer with the names of the producers that it serves
pub record IsDisposerOf (d : Deployment) (qualifiers : List QualifierType)
    (declared : Class × Disposer) (m : DisposerMethod) : Type 0 where
  pub class : m.class ≡ declared.0.name
  pub name : m.name ≡ declared.1.name
  pub serves : AreServed (declarations_of d) qualifiers declared.1 declared.0.members m.serves
