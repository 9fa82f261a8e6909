use Rattle.std.proofs.Common.{◌∙◌, ◌<◌, ◌^◌, ap, length, sym, subst}
use Rattle.std.proofs.lemmas.List.{length-map}
use Rattle.cdi_bean_lives.specs.Beans.{numbered_at, steps_at}
use Rattle.cdi_machine.specs.Told.{step_told}
use Rattle.cdi_run_tables.specs.Numbered as spec
use Rattle.cdi_run_tables.proofs.Telling.{few_steps, no_kind, steps_told, tells_at}
use Rattle.cdi_run_tables.proofs.tables.RunTables.steps.Goals as goal

pub overflow_cast-result : goal.overflow_cast-result
overflow_cast-result c =
    let t = c.args.self.now in
    let beans = c.self.inside.parts.beans in
    let told = tells_at c.self.inside.parts c.self.invariant.kept c.args.bean t c.self.view_is (sym c.is_enabled.ensures ∙ c.if-is_enabled.true) c.requires in
    let same = c.step_count.ensures ∙ sym (length-map (steps_at beans c.args.bean) step_told) ∙ ap length (steps_told (spec.kind_at t c.args.bean) (numbered_at beans c.args.bean) told) in
    record { fits = subst (λ n. n < 2 ^ 32) (sym same) (few_steps t c.requires c.args.bean) }

pub returns-then-is_enabled : goal.returns-then-is_enabled
returns-then-is_enabled c =
    let t = c.args.self.now in
    let beans = c.self.inside.parts.beans in
    let told = tells_at c.self.inside.parts c.self.invariant.kept c.args.bean t c.self.view_is (sym c.is_enabled.ensures ∙ c.if-is_enabled.true) c.requires in
    c.step_count.ensures ∙ sym (length-map (steps_at beans c.args.bean) step_told) ∙ ap length (steps_told (spec.kind_at t c.args.bean) (numbered_at beans c.args.bean) told)

pub returns : goal.returns
returns c =
    ap (λ k. length (spec.plan_in k)) (no_kind c.args.self.now c.args.bean (sym c.is_enabled.ensures ∙ c.if-is_enabled.false))
