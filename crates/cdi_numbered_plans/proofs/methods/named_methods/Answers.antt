use Rattle.std.proofs.Common.{◌≡◌, ◌∙◌, Option, [], ◌∷◌, ap, sym}
use Rattle.std.specs.Option.{option_or}
use Rattle.cdi_event_tables.specs.Ids.{id_in}
use Rattle.cdi_machine.specs.declared.member.Method.{Method}
use Rattle.cdi_method_maps.specs.NamedMethods.{method_named}
use Rattle.cdi_numbered_plans.specs.Methods.{method_by}
use Rattle.cdi_numbered_plans.proofs.FirstMethods.{found_in, found_next, named_next, not_named}
use Rattle.cdi_numbered_plans.proofs.methods.named_methods.Goals as goal
use Rattle.cdi_numbered_plans.proofs.methods.named_methods.Goals.{in-Some+in_ok-method_of+in_ok-push, in_default}

pub loop-method-preserved : goal.loop-method-preserved
loop-method-preserved c = λ name.
    let i = c.loop-method in
    let ids = id_in c.args.ids.now in
    let m = c.method-item.result in
    let more : method_named name c.match-id.named ≡ option_or (method_named name i.named) (found_in method_by ids (m ∷ []) name) =
    elim c.match-id.branch [
      | in-Some+in_ok-method_of+in_ok-push w ↦
          ap (method_named name) (w.named-is ∙ w.in_ok-push.ensures.ok)
          ∙ named_next ids i.named m w.in-Some.body w.in_ok-method_of.field-0 (sym c.id.ensures ∙ w.in-Some.is) w.in_ok-method_of.ensures name
      | in_default w ↦
          ap (method_named name) w.named-is
          ∙ not_named ids i.named m (sym c.id.ensures ∙ w.in_default.is) name
    ] in
    more
    ∙ ap (λ (o : Option Method). option_or o (found_in method_by ids (m ∷ []) name)) (i.invariant name)
    ∙ sym (found_next method_by ids c.args.methods.now i.method-index m c.loop-method-test.true c.method-item.is name)
