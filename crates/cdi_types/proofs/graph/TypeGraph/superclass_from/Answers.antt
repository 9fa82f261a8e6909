use Rattle.std.proofs.Common.{◌∙◌, option_and_then, slice_get, sym, ap}
use Rattle.cdi_types.specs.declared.declaration.TypeDeclaration.{TypeDeclaration}
use Rattle.cdi_types.proofs.Places.{superclass_at, superclass_nowhere}
use Rattle.cdi_types.proofs.graph.TypeGraph.superclass_from.Goals as goal

pub returns-in_err-place : goal.returns-in_err-place
returns-in_err-place c = λ name is. c.from_residual.ensures ∙ sym (superclass_nowhere c.args.self.now name (sym is ∙ c.in_err-place.was))

pub returns-in_err-get : goal.returns-in_err-get
returns-in_err-get c = λ name is.
    let i = c.in_ok-place.field-0 in
    let none = sym (rw c.in_err-get.was at c.get.ensures) in
    let found = superclass_at c.args.self.now name i (sym is ∙ c.in_ok-place.was) in
    c.from_residual-in_err-get.ensures ∙ sym (found ∙ ap (option_and_then (λ (d : TypeDeclaration). d.superclass)) (ap (λ ds. slice_get ds i) (sym c.self.view_is) ∙ none))

pub returns : goal.returns
returns c = λ name is.
    let i = c.in_ok-place.field-0 in
    let some = sym (rw c.in_ok-get.was at c.get.ensures) in
    let found = superclass_at c.args.self.now name i (sym is ∙ c.in_ok-place.was) in
    sym (found ∙ ap (option_and_then (λ (d : TypeDeclaration). d.superclass)) (ap (λ ds. slice_get ds i) (sym c.self.view_is) ∙ some))
