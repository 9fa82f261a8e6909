-- The way up a line.
use Rattle.std.specs.Prelude.{ℕ, ◌≡◌, ◌≢◌, List, Option, Some, None}
use Rattle.cdi_deployment.specs.declared.deployment.Class.{Class}
use Rattle.cdi_types.specs.declared.class_index.Stop.{Stop}
use Rattle.cdi_types.specs.declared.declaration.TypeDeclaration.{TypeDeclaration}
use Rattle.cdi_types.specs.Line.{place_named}
use Rattle.cdi_types.specs.Lineage.{superclass_of}
use Rattle.cdi_types.specs.Nodes.{place_of}
use Rattle.cdi_types.specs.Subtype.{object}

-- a name other than Object's, with its places
pub record IsStop (types : List TypeDeclaration) (classes : List Class) (stop : Stop) : Type 0 where
  pub other : stop.name ≢ object
  pub place : stop.place ≡ place_of types stop.name
  pub class_place : stop.class_place ≡ place_named classes stop.name

-- the stop above a name is that of its superclass; there is none if it has none, or if that is Object
abbrev pub IsStopAbove : List TypeDeclaration → List Class → ℕ → Option Stop → Type 0
IsStopAbove types classes name None = (above : ℕ) → superclass_of types name ≡ Some above → above ≡ object
IsStopAbove types classes name (Some stop) = (superclass_of types name ≡ Some stop.name) × IsStop types classes stop
