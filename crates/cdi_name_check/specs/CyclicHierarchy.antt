-- Types above themselves.
use Rattle.std.specs.Prelude.{List}
use Rattle.cdi_problems.specs.Elements.{Element}
use Rattle.cdi_types.specs.declared.declaration.TypeDeclaration.{TypeDeclaration}
use Rattle.cdi_types.specs.Subtype.{IsCyclic}

-- P3 CyclicHierarchy: the class or interface is its own proper supertype
abbrev pub IsCyclicHierarchy : List TypeDeclaration → Element → Type 0
IsCyclicHierarchy types (Element.AnInterface i) = IsCyclic types i.name
IsCyclicHierarchy types (Element.AClass i c) = IsCyclic types c.name
IsCyclicHierarchy types _ = ⊥
