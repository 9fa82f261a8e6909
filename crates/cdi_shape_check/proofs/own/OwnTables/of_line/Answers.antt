use Rattle.std.proofs.Common.{◌==◌, ◌∙◌, map, ap}
use Rattle.std.proofs.Math.Path.{fun_ext}
use Rattle.std.specs.List.{list_any, flat_map}
use Rattle.cdi_deployment.specs.declared.deployment.Class.{Class}
use Rattle.cdi_shape_check.proofs.Asking.{any_asked, found_asked}
use Rattle.cdi_shape_check.proofs.SameParts.{same_parts}
use Rattle.cdi_shape_check.specs.OwnParts.{has_field, injected_field, declares_method}
use Rattle.cdi_shape_check.proofs.own.OwnTables.of_line.Goals as goal

pub returns : goal.returns
returns c =
    let line = c.args.line.now in
    let asked = c.args.asked in
    same_parts _ _ _ _ _ _
    (λ name.
    c.in_ok-field_names.ensures.same name ∙ ap (λ cs. list_any (λ (c : Class). has_field name c.fields) (map (λ c. c.now) cs)) c.asked_line.ensures
    ∙ any_asked (λ c. c.now) asked.fields line (λ (c : Class). has_field name c.fields))
    (fun_ext (λ name.
    ap (injected_field name) (c.in_ok-injected_of.ensures ∙ ap (λ cs. flat_map (λ (c : Class). c.inject) (map (λ c. c.now) cs)) c.asked_line-2.ensures)
    ∙ found_asked (λ c. c.now) asked.injected line (λ (c : Class). c.inject) (λ f. f.name == name)))
    (λ name count.
    c.in_ok-methods_of.ensures.same name count ∙ ap (λ cs. list_any (declares_method name count) (map (λ c. c.now) cs)) c.asked_line-3.ensures
    ∙ any_asked (λ c. c.now) asked.methods line (declares_method name count))
