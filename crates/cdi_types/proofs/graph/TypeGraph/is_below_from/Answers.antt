use Rattle.std.proofs.Common.{◌∙◌, ap, is_some, nat_eq, true≢false, refl, sym}
use Rattle.cdi_types.specs.Index.{place_in}
use Rattle.cdi_types.specs.Nodes.{place_of}
use Rattle.cdi_types.proofs.Places.{is_some-position}
use Rattle.cdi_types.proofs.Refined.{below_told, not_below, not_declared}
use Rattle.cdi_types.proofs.graph.TypeGraph.is_below_from.Goals as goal

pub returns-in_default : goal.returns-in_default
returns-in_default c = λ name other is to.
    let undeclared = not_declared c.args.self.now other (sym to ∙ c.in_default.is) in
    (λ h. absurd (true≢false (sym h)), λ s. absurd (true≢false (sym s.0 ∙ undeclared)))

pub returns-in_default-place : goal.returns-in_default-place
returns-in_default-place c = λ name other is to.
    let types = c.args.self.now in
    let none = sym is ∙ c.in_default-place.is in (
      λ h. absurd (true≢false (sym h)),
      λ s. absurd (not_below types (place_of types) (λ n. refl) name other none s.1),
    )

pub returns : goal.returns
returns c = λ name other is there.
    let i = c.self.inside in
    let from = sym c.in-Some-place.is ∙ (rw (← c.self.view_is) at is) ∙ sym (c.self.invariant.places name) in
    let to = sym c.in-Some.is ∙ (rw (← c.self.view_is) at there) ∙ sym (c.self.invariant.places other) in
    let told = below_told i.types (place_in i.index) c.self.invariant.places _ c.self.invariant.edges c.reaches_properly.result name other c.in-Some-place.from c.in-Some.to from to c.reaches_properly.ensures in
    let declared = sym (is_some-position (λ d. nat_eq d.name other) i.types) ∙ ap is_some (sym (c.self.invariant.places other) ∙ sym to) in
    rw (← c.self.view_is) (λ h. (declared, told.0 h), λ s. told.1 s.1)
