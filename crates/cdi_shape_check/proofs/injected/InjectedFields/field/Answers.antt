use Rattle.std.proofs.Common.{◌≡◌, ◌∙◌, nat_eq, Some, None, rules, sym, ap}
use Rattle.std.specs.Option.{option_copied}
use Rattle.std.specs.HashMap.{get}
use Rattle.cdi_deployment.specs.declared.deployment.InjectedField.{InjectedField}
use Rattle.cdi_types.proofs.Places.{no_place}
use Rattle.cdi_types.proofs.ClassPlaces.{found_at}
use Rattle.cdi_shape_check.specs.OwnParts.{injected_field}
use Rattle.cdi_shape_check.proofs.injected.InjectedFields.field.Goals as goal

pub returns-in_err-place : goal.returns-in_err-place
returns-in_err-place c =
    let none : get nat_eq c.self.inside.places c.args.name ≡ None = search rules in
    let found = no_place (λ (f : InjectedField). nat_eq f.name c.args.name) c.self.inside.fields (sym (c.self.invariant c.args.name) ∙ none) in
    ap option_copied c.from_residual.ensures ∙ sym (ap (injected_field c.args.name) (sym c.self.view_is) ∙ found)

pub returns-in-Some : goal.returns-in-Some
returns-in-Some c =
    let some : get nat_eq c.self.inside.places c.args.name ≡ Some c.in_ok-place.place = search rules in
    let found = found_at (λ (f : InjectedField). nat_eq f.name c.args.name) c.self.inside.fields c.in_ok-place.place (sym (c.self.invariant c.args.name) ∙ some) in
    ap Some c.field.ensures ∙ c.in-Some.ensures ∙ sym (ap (injected_field c.args.name) (sym c.self.view_is) ∙ found)

pub returns-in-None : goal.returns-in-None
returns-in-None c =
    let some : get nat_eq c.self.inside.places c.args.name ≡ Some c.in_ok-place.place = search rules in
    let found = found_at (λ (f : InjectedField). nat_eq f.name c.args.name) c.self.inside.fields c.in_ok-place.place (sym (c.self.invariant c.args.name) ∙ some) in
    c.in-None.ensures ∙ sym (ap (injected_field c.args.name) (sym c.self.view_is) ∙ found)
