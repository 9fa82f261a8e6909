use Rattle.std.proofs.Common.{List, map, sym, subst}
use Rattle.cdi_deployment.specs.declared.deployment.Class.{Class}
use Rattle.cdi_types.specs.Declarations.{of_class}
use Rattle.cdi_types.specs.Subtype.{IsAcyclic}
use Rattle.cdi_types.specs.declared.declaration.TypeDeclaration.{TypeDeclaration}
use Rattle.cdi_beans.proofs.Specialized.{acyclic_classes}
use Rattle.cdi_beans.proofs.tables.Tables.managed_qualifiers.Goals as goal

pub managed_qualifiers-requires-clause-acyclic : goal.managed_qualifiers-requires-clause-acyclic
managed_qualifiers-requires-clause-acyclic c =
    let tables = c.args.self.now in
    let P : List Class → Type 0 = λ classes. IsAcyclic (map of_class classes) in
    let Q : List TypeDeclaration → Type 0 = IsAcyclic in
    subst P (sym tables.beans_are) (acyclic_classes tables.deployment.now (subst Q tables.types_are c.law_sound.ensures.acyclic))
