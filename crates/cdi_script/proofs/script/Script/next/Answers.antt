use Rattle.std.proofs.Common.{◌≡◌, ◌∙◌, ◌-◌, length, slice_get, IfOk, ap, sym, subst, arith}
use Rattle.std.specs.Option.{option_copied}
use Rattle.cdi_base.specs.declared.act.Act.{Act}
use Rattle.cdi_script.specs.Next.{act_at, end_act, lookups_in}
use Rattle.cdi_script.specs.Step.{act_of}
use Rattle.cdi_script.proofs.Course.{step_at, end_at, none_of}
use Rattle.cdi_script.proofs.script.Script.next.Goals as goal

pub returns-in_default-clause-act : goal.returns-in_default-clause-act
returns-in_default-clause-act c =
    let none = end_at c.args.self.now c.place_reached-place.result
    (ap (λ all. slice_get all c.place_reached-place.result) (sym c.self.view_is) ∙ sym c.get.ensures ∙ none_of c.get.result c.in_default.not-Some) in
    c.end_act.ensures
    ∙ ap (λ o. end_act o) c.last.ensures.value
    ∙ ap (λ all. end_act (slice_get all (length all - 1))) c.as_slice.ensures
    ∙ ap (λ left. act_at c.args.self.now left c.args.fields.now c.args.view.now) (sym none ∙ c.place_reached-place.ensures)

pub lookup_at-lookup-requires : goal.lookup_at-lookup-requires
lookup_at-lookup-requires c =
    step_at c.args.self.now c.place_reached-place.result c.in-Some.step.now
    (ap (λ all. slice_get all c.place_reached-place.result) (sym c.self.view_is) ∙ sym c.get.ensures ∙ ap (λ o. option_copied o) c.in-Some.is)

pub returns-clause-act : goal.returns-clause-act
returns-clause-act c =
    let there = step_at c.args.self.now c.place_reached-place.result c.in-Some.step.now
    (ap (λ all. slice_get all c.place_reached-place.result) (sym c.self.view_is) ∙ sym c.get.ensures ∙ ap (λ o. option_copied o) c.in-Some.is) in
    let same =
    c.lookup_at-lookup.ensures c.args.fields.now c.args.view.now
    ∙ ap (λ left. act_of (lookups_in c.args.self.now - lookups_in left) c.in-Some.step.now.action c.args.fields.now c.args.view.now) there
    ∙ ap (λ left. act_at c.args.self.now left c.args.fields.now c.args.view.now) (sym there ∙ c.place_reached-place.ensures) in
    subst (λ (x : Act). IfOk c.act.result (λ act. act ≡ x)) same c.act.ensures

pub returns-clause-ended : goal.returns-clause-ended
returns-clause-ended c = λ ended.
    let there = step_at c.args.self.now c.place_reached-place.result c.in-Some.step.now
    (ap (λ all. slice_get all c.place_reached-place.result) (sym c.self.view_is) ∙ sym c.get.ensures ∙ ap (λ o. option_copied o) c.in-Some.is) in
    let never = sym there ∙ c.place_reached-place.ensures ∙ ended in
    absurd (grind (arith, never))
