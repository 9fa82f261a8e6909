use Rattle.std.proofs.Common.{◌≡◌, ◌∙◌, List, [], ◌∷◌, map, refl, ap}
use Rattle.std.specs.List.{list_all}
use Rattle.cdi_bean_lives.proofs.Numbering.{injections_numbered, methods_numbered}
use Rattle.cdi_bean_lives.proofs.OwnMethods.{AreGivenMethods, of_all, of_own}
use Rattle.cdi_deployment.specs.Member.{member_name}
use Rattle.cdi_event_tables.specs.Ids.{id_in}
use Rattle.cdi_event_tables.specs.declared.ids.BodyIds.{BodyIds}
use Rattle.cdi_numbered_plans.specs.Machine.{machine_code}
use Rattle.cdi_numbered_plans.specs.Numbered.{steps_by}
use Rattle.cdi_numbered_plans.specs.Numbers.{numbers_methods, numbers_step}
use Rattle.cdi_planner.specs.declared.own_parts.OwnParts.{OwnParts}
use Rattle.cdi_plans.specs.declared.plan.Code.{Code}
use Rattle.cdi_types.specs.Members.{members_of}
use Rattle.cdi_bean_lives.proofs.own.own_life.Goals as goal
use Rattle.cdi_bean_lives.proofs.own.own_life.Goals.{then-inherits_methods+in_ok-methods, else-inherits_methods+in_ok-methods-2}

pub named_methods-requires : goal.named_methods-requires
named_methods-requires c =
    ap numbers_methods (c.as_slice.ensures ∙ ap (λ (p : OwnParts). p.methods) c.in_ok-parts.ensures)
    ∙ methods_numbered c.args.planner.now.chains c.requires.few c.args.class.now.name (members_of (c.args.class.now ∷ []))

pub steps_of-requires-clause-numbers : goal.steps_of-requires-clause-numbers
steps_of-requires-clause-numbers c =
    ap (list_all numbers_step) (c.as_slice-3.ensures ∙ ap (λ (p : OwnParts). p.injections) c.in_ok-parts.ensures)
    ∙ injections_numbered (c.args.class.now ∷ [])

-- callbacks with the same bodies, by the same numbers
same_codes : (ids of : BodyIds) (codes own : List Code) → ids ≡ of → codes ≡ own → map (machine_code (id_in ids)) codes ≡ map (machine_code (id_in of)) own
same_codes ids of codes own same is = ap (λ (i : BodyIds). map (machine_code (id_in i)) codes) same ∙ ap (map (machine_code (id_in of))) is

pub returns-clause-own : goal.returns-clause-own
returns-clause-own c =
    let t = c.args.planner.now in
    let n = c.args.numbering.now in
    let class = c.args.class.now in
    let parts = c.in_ok-parts.ensures in
    let ids = c.ids-ids.result.now in
    let given : AreGivenMethods t n class c.args.inherits_methods c.if-inherits_methods.methods =
    elim c.if-inherits_methods.branch [
      | then-inherits_methods+in_ok-methods w ↦
          of_own t n class c.args.inherits_methods ids c.ids-ids.ensures c.if-inherits_methods.methods w.in_ok-methods.methods w.methods-is w.if-inherits_methods.true
          w.as_slice.result.now (w.as_slice.ensures ∙ ap (λ (p : OwnParts). p.methods) parts) w.in_ok-methods.ensures
      | else-inherits_methods+in_ok-methods-2 w ↦
          of_all t n class c.args.inherits_methods ids c.ids-ids.ensures c.if-inherits_methods.methods w.in_ok-methods-2.methods w.methods-is w.if-inherits_methods.false w.in_ok-methods-2.ensures
    ] in
    record {
      class_is = refl;
      declared = c.in_ok-names_of.ensures ∙ ap (map member_name) c.as_slice-2.ensures;
      fields = c.replace.ensures.value ∙ ap (λ (p : OwnParts). p.fields) parts;
      injections = c.in_ok-steps_of.ensures.steps ∙ ap (steps_by n) (c.as_slice-3.ensures ∙ ap (λ (p : OwnParts). p.injections) parts);
      post_constructs = c.in_ok-codes_of.ensures ∙ same_codes ids n.ids.now _ _ c.ids-ids.ensures (c.as_slice-4.ensures ∙ ap (λ (p : OwnParts). p.post_constructs) parts);
      pre_destroys = c.in_ok-codes_of-2.ensures ∙ same_codes ids n.ids.now _ _ c.ids-ids.ensures (c.as_slice-5.ensures ∙ ap (λ (p : OwnParts). p.pre_destroys) parts);
      all = given.all;
      are_all = given.are_all;
      methods = given.methods;
    }
