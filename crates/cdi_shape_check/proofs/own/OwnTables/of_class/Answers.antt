use Rattle.std.proofs.Common.{◌∙◌, List, Result, Ok, Err, IfOk, refl, ap, subst}
use Rattle.cdi_deployment.specs.declared.deployment.Class.{Class}
use Rattle.cdi_types.specs.Line.{IsLineOf}
use Rattle.cdi_types.specs.Declarations.{declarations_of}
use Rattle.cdi_types.specs.declared.declaration.TypeDeclaration.{TypeDeclaration}
use Rattle.cdi_shape_check.specs.AskedParts.{asked_parts}
use Rattle.cdi_shape_check.specs.OwnParts.{parts_of_line}
use Rattle.cdi_shape_check.proofs.own.OwnTables.of_class.Goals as goal

if_ok : {T E : Type 0} (P Q : T → Type 0) (r : Result T E) → ((x : T) → P x → Q x) → IfOk r P → IfOk r Q
if_ok P Q (Ok x) f p = f x p
if_ok P Q (Err e) f p = p

pub returns : goal.returns
returns c =
    let t = c.args.application.now in
    let line = c.in_ok-line.line in
    let name = c.args.class.now.name in
    let OfTypes : List TypeDeclaration → Type 0 = λ types. IsLineOf types t.classes.now name line in
    let OfClasses : List Class → Type 0 = λ classes. IsLineOf (declarations_of t.deployment.now) classes name line in
    let is_line : IsLineOf (declarations_of t.deployment.now) t.deployment.now.classes name line = subst OfClasses t.classes_are (subst OfTypes t.types_are c.in_ok-line.ensures) in
    if_ok _ _ c.of_line.result (λ own e. record { parts = parts_of_line line; are_parts = record { line = line; is_line = is_line; are = refl }; are = e ∙ ap (λ cs. asked_parts c.args.asked (parts_of_line cs)) c.classes.ensures }) c.of_line.ensures
