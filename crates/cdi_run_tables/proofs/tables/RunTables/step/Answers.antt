use Rattle.std.proofs.Common.{◌∙◌, ap, option_map, slice_get, sym}
use Rattle.std.proofs.lemmas.Option.{slice_get-map}
use Rattle.cdi_bean_lives.specs.Beans.{numbered_at, steps_at}
use Rattle.cdi_machine.specs.Resolved.{IsResolvedStep}
use Rattle.cdi_machine.specs.Told.{step_told}
use Rattle.cdi_run_tables.specs.Numbered as spec
use Rattle.cdi_run_tables.proofs.Telling.{all_at, lent, lent_so, no_kind, resolved_at, steps_resolved, steps_told, tells_at}
use Rattle.cdi_run_tables.proofs.tables.RunTables.step.Goals as goal

pub returns-then-is_enabled-clause-step : goal.returns-then-is_enabled-clause-step
returns-then-is_enabled-clause-step c =
    let t = c.args.self.now in
    let beans = c.self.inside.parts.beans in
    let told = tells_at c.self.inside.parts c.self.invariant.kept c.args.bean t c.self.view_is (sym c.is_enabled.ensures ∙ c.if-is_enabled.true) c.requires in
    lent step_told c.step.result ∙ ap (option_map step_told) c.step.ensures
    ∙ sym (slice_get-map step_told (steps_at beans c.args.bean) c.args.at)
    ∙ ap (λ ss. slice_get ss c.args.at) (steps_told (spec.kind_at t c.args.bean) (numbered_at beans c.args.bean) told)

pub returns-then-is_enabled-clause-resolved : goal.returns-then-is_enabled-clause-resolved
returns-then-is_enabled-clause-resolved c =
    let t = c.args.self.now in
    let on = sym c.is_enabled.ensures ∙ c.if-is_enabled.true in
    let beans = c.self.inside.parts.beans in
    let resolved = resolved_at c.self.inside.parts c.self.invariant.kept c.args.bean t c.self.view_is on in
    let all = steps_resolved (spec.machine_resolve t) (numbered_at beans c.args.bean) resolved in
    lent_so (IsResolvedStep (spec.machine_resolve t)) c.step.result (slice_get (steps_at beans c.args.bean) c.args.at) c.step.ensures
    (all_at (IsResolvedStep (spec.machine_resolve t)) (steps_at beans c.args.bean) all c.args.at)

pub returns-clause-step : goal.returns-clause-step
returns-clause-step c =
    ap (λ k. slice_get (spec.plan_in k) c.args.at) (no_kind c.args.self.now c.args.bean (sym c.is_enabled.ensures ∙ c.if-is_enabled.false))
