-- What building the table of the types answers.
use Rattle.std.specs.Prelude.{ℕ, ◌≡◌, true, false, List}
use Rattle.cdi_base.specs.declared.or_memory.OrMemory.{OrMemory}
use Rattle.cdi_base.specs.declared.or_memory.OrMemory.TheVariants as errors
use Rattle.cdi_types.specs.declared.declaration.TypeDeclaration.{TypeDeclaration}
use Rattle.cdi_types.specs.declared.fault.TypesFault.{TypesFault}
use Rattle.cdi_types.specs.declared.fault.TypesFault.TheVariants as faults
use Rattle.cdi_types.specs.Subtype.{IsCyclic, IsAcyclic, knows_supertypes}

-- types that have a table
pub record IsSound (types : List TypeDeclaration) : Type 0 where
  pub acyclic : IsAcyclic types
  pub known : knows_supertypes types ≡ true

-- types that have none, and no memory was wanting
abbrev pub IsRefused : List TypeDeclaration → OrMemory TypesFault → Type 0
IsRefused types (errors.Fault faults.Cycle) = (a : ℕ) × IsCyclic types a
IsRefused types (errors.Fault faults.Unknown) = IsAcyclic types × (knows_supertypes types ≡ false)
IsRefused types errors.Memory = Unit {0}
