use Rattle.std.proofs.Common.{◌≡◌, ◌∙◌, nat_eq, Some, None, slice_get, rules, sym, ap}
use Rattle.std.specs.Option.{option_copied}
use Rattle.std.specs.HashMap.{get}
use Rattle.cdi_plans.specs.declared.bindings.ClassBindings.{ClassBindings}
use Rattle.cdi_plans.specs.Chains.{class_named}
use Rattle.cdi_types.proofs.Places.{no_place}
use Rattle.cdi_types.proofs.ClassPlaces.{found_at}
use Rattle.cdi_plans.proofs.chains.Chains.class.Goals as goal

pub returns-in_err-place : goal.returns-in_err-place
returns-in_err-place c =
    let none : get nat_eq c.self.inside.places c.args.name ≡ None = search rules in
    let found = no_place (λ (k : ClassBindings). nat_eq k.name c.args.name) c.self.inside.classes (sym (c.self.invariant c.args.name) ∙ none) in
    ap option_copied c.from_residual.ensures ∙ sym (ap (λ t. class_named t c.args.name) (sym c.self.view_is) ∙ found)

pub returns : goal.returns
returns c =
    let place = c.in_ok-place.place in
    let some : get nat_eq c.self.inside.places c.args.name ≡ Some place = search rules in
    let at : option_copied c.get-2.result ≡ slice_get c.self.inside.classes place = c.get-2.ensures in
    let found = found_at (λ (k : ClassBindings). nat_eq k.name c.args.name) c.self.inside.classes place (sym (c.self.invariant c.args.name) ∙ some) in
    at ∙ sym (ap (λ t. class_named t c.args.name) (sym c.self.view_is) ∙ found)
