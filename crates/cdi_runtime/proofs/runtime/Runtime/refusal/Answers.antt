use Rattle.std.proofs.Common.{rules, ◌≡◌, ◌∙◌, ap, sym, subst, None, false}
use Rattle.cdi_contexts.specs.Refusals.{first_that_holds}
use Rattle.cdi_machine.specs.Container.{idle_state, refusal, refused_by_tables}
use Rattle.cdi_run_tables.specs.Machine.{machine_tables}
use Rattle.cdi_runtime.specs.Refusals.{contexts_refusal, otherwise, use_refusal}
use Rattle.cdi_runtime.proofs.Refusing.{known_beside, refused_in_order, use_refused}
use Rattle.cdi_steps.specs.Known.{IsResolved, KnownJob, TellsRightly}
use Rattle.cdi_steps.specs.Words.{command_of}
use Rattle.cdi_steps.specs.declared.task.BeanUse.{BeanUse}
use Rattle.cdi_steps.specs.declared.task.Job.TheVariants as jobs
use Rattle.cdi_runtime.proofs.runtime.Runtime.refusal.Goals as goal

pub refuses_use-requires : goal.refuses_use-requires
refuses_use-requires g c =
    rw c.deref_mut.ensures.value
    (subst (λ r. TellsRightly (machine_tables r.tables) c.in-Use.used.value) (sym c.self.view_is) (rw c.in-Use.is at c.requires))

pub returns-in-Use-clause-rightly : goal.returns-in-Use-clause-rightly
returns-in-Use-clause-rightly g c =
    subst (λ r. TellsRightly (machine_tables r.tables) c.refuses_use.new.used) c.self.view_is c.refuses_use.ensures.rightly

pub returns-in-Use-clause-known : goal.returns-in-Use-clause-known
returns-in-Use-clause-known g c =
    subst (λ r. c.refuses_use.result ≡ None → TellsRightly (machine_tables r.tables) c.refuses_use.new.used) c.self.view_is (λ none. (c.refuses_use.ensures.resolved none).rightly)

pub returns-in-Use-clause-resolved : goal.returns-in-Use-clause-resolved
returns-in-Use-clause-resolved g c =
    subst (λ r. c.refuses_use.result ≡ None → IsResolved (machine_tables r.tables) c.refuses_use.new.used) c.self.view_is c.refuses_use.ensures.resolved

pub returns-in_default-job-clause-known : goal.returns-in_default-job-clause-known
returns-in_default-job-clause-known g c = λ told.
    let i = c.self.inside in
    subst (λ r. KnownJob (machine_tables r.tables) r.world c.args.job.now) c.self.view_is
    (known_beside (machine_tables i.tables) i.world c.args.job.now (sym c.in_default.ensures) c.in_default-job.not-Use)

pub returns-in-Use-clause-refusal : goal.returns-in-Use-clause-refusal
returns-in-Use-clause-refusal g c =
    let tables = c.self.inside.tables in
    let world = c.self.inside.world in
    let command = command_of (jobs.Use c.in-Use._request c.in-Use.used) in
    let down : world.down ≡ false = search rules in
    let none : None ≡ contexts_refusal world.contexts command = rw c.in-Use.is at c.in_default.ensures in
    let told : c.refuses_use.result ≡ refusal (machine_tables tables) (idle_state world c.args.halted) command =
    subst (λ (used : BeanUse). c.refuses_use.result ≡ use_refusal (machine_tables tables) used) c.deref_mut.ensures.value c.refuses_use.ensures.refusal
    ∙ sym (use_refused tables c.refuses_use.ensures.servable c.in-Use._request c.in-Use.used.value)
    ∙ ap (λ x. otherwise x (first_that_holds (refused_by_tables (machine_tables tables) command))) none
    ∙ sym (refused_in_order (machine_tables tables) world c.args.halted command c.if-halted.false down) in
    rw c.in-Use.is
    (subst (λ r. c.refuses_use.result ≡ refusal (machine_tables r.tables) (idle_state r.world c.args.halted) command) c.self.view_is told)
