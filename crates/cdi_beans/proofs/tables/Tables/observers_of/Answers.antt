use Rattle.std.proofs.Common.{List, refl, subst}
use Rattle.cdi_deployment.specs.declared.deployment.Class.{Class}
use Rattle.cdi_types.specs.Line.{IsLineOf}
use Rattle.cdi_types.specs.Members.{members_of}
use Rattle.cdi_types.specs.declared.declaration.TypeDeclaration.{TypeDeclaration}
use Rattle.cdi_beans.proofs.tables.Tables.observers_of.Goals as goal

pub returns : goal.returns
returns c =
    let tables = c.args.self.now in
    let class = c.args.class.now in
    let line = c.in_ok-line.line in
    let P : List TypeDeclaration → Type 0 = λ types. IsLineOf types tables.deployment.now.classes class.name line in
    let Q : List Class → Type 0 = λ classes. IsLineOf tables.types.now classes class.name line in
    record {
      has = members_of line;
      are = record { line = line; is_line = subst P tables.types_are (subst Q tables.classes_are c.in_ok-line.ensures); are = refl };
      those = c.in_ok-observers.ensures;
    }
