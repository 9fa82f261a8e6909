use Rattle.std.proofs.Common.{◌≡◌, ◌∙◌, ◌&&◌, nat_eq, Some, None, slice_get, rules, sym, ap}
use Rattle.std.specs.Option.{option_copied}
use Rattle.std.specs.HashMap.{get}
use Rattle.cdi_deployment.specs.declared.deployment.Class.{Class}
use Rattle.cdi_types.proofs.Places.{no_place}
use Rattle.cdi_types.proofs.ClassPlaces.{found_at, got}
use Rattle.cdi_bean_check.specs.ManagedBeans.{is_bean, bean_class}
use Rattle.cdi_bean_check.proofs.bean_classes.BeanClasses.class.Goals as goal

pub returns-in_err-place : goal.returns-in_err-place
returns-in_err-place c =
    let none : get nat_eq c.self.inside.places c.args.name ≡ None = search rules in
    let found = no_place (λ (k : Class). nat_eq k.name c.args.name && is_bean k) c.self.inside.classes.now (sym (c.self.invariant c.args.name) ∙ none) in
    ap option_copied c.from_residual.ensures ∙ sym (ap (λ cs. bean_class cs c.args.name) (sym c.self.view_is) ∙ found)

pub returns : goal.returns
returns c =
    let place = c.in_ok-place.place in
    let some : get nat_eq c.self.inside.places c.args.name ≡ Some place = search rules in
    let at : option_copied c.get-2.result ≡ slice_get c.self.inside.classes.now place = got c.get-2.result c.self.inside.classes.now place c.get-2.ensures.lookup.0 c.get-2.ensures.lookup.1 in
    let found = found_at (λ (k : Class). nat_eq k.name c.args.name && is_bean k) c.self.inside.classes.now place (sym (c.self.invariant c.args.name) ∙ some) in
    at ∙ sym (ap (λ cs. bean_class cs c.args.name) (sym c.self.view_is) ∙ found)
