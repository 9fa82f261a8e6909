use Rattle.std.proofs.Common.{◌≡◌, ◌∙◌, ℕ, List, Option, Some, None, slice_get, sym, ap}
use Rattle.std.proofs.lemmas.Option.{same_Some}
use Rattle.cdi_types.specs.Index.{place_in}
use Rattle.cdi_types.specs.Nodes.{place_of}
use Rattle.cdi_types.specs.declared.declaration.TypeDeclaration.{TypeDeclaration}
use Rattle.cdi_types.proofs.Places.{place_above_at, superclass_nowhere}
use Rattle.cdi_types.proofs.graph.TypeGraph.superclass_place_from.Goals as goal

neither : (above : ℕ) → None ≡ Some above → ⊥
neither above e = cc

no_place : (above : Option ℕ) → None ≡ Some above → ⊥
no_place above e = cc

pub returns-in_err-place : goal.returns-in_err-place
returns-in_err-place c = λ name above is extends.
    absurd (neither above (sym (superclass_nowhere c.args.self.now name (sym is ∙ c.in_err-place.was)) ∙ extends))

pub returns-in_err-get : goal.returns-in_err-get
returns-in_err-get c = λ name above is extends.
    let i = c.self.inside in
    let k = c.in_ok-place.field-0 in
    let none = rw c.in_err-get.was at c.get.ensures in
    let at = place_above_at i.types (place_in i.index) name above k (rw (← c.self.view_is) at (sym is ∙ c.in_ok-place.was)) (rw (← c.self.view_is) at extends) in
    absurd (no_place (place_in i.index above) (none ∙ ap (λ ps. slice_get ps k) c.self.invariant.superclasses ∙ at))

pub returns : goal.returns
returns c = λ name above is extends.
    let i = c.self.inside in
    let k = c.in_ok-place.field-0 in
    let some = rw c.in_ok-get.was at c.get.ensures in
    let at = place_above_at i.types (place_in i.index) name above k (rw (← c.self.view_is) at (sym is ∙ c.in_ok-place.was)) (rw (← c.self.view_is) at extends) in
    let there = same_Some c.in_ok-get.field-0.now (place_in i.index above) (some ∙ ap (λ ps. slice_get ps k) c.self.invariant.superclasses ∙ at) in
    there ∙ c.self.invariant.places above ∙ ap (λ (ds : List TypeDeclaration). place_of ds above) c.self.view_is
