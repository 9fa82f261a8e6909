use Rattle.std.proofs.Common.{sym, ap, subst}
use Rattle.cdi_base.specs.declared.reply.Cause.TheVariants as causes
use Rattle.cdi_frames.specs.Stacks.{KnownStack, program_of}
use Rattle.cdi_steps.specs.Words.{outcome_of}
use Rattle.cdi_steps.specs.declared.task.Outcome.TheVariants as outcomes
use Rattle.cdi_container.specs.Standing.{state_of, tables_in, tables_of}
use Rattle.cdi_container.specs.States.{ContainerState, CarriesOut}
use Rattle.cdi_container.specs.Turns.{KeepsOn}
use Rattle.cdi_container.specs.declared.left.Left.TheVariants as lefts
use Rattle.cdi_container.specs.declared.left.Progress.TheVariants as progresses
use Rattle.cdi_container.proofs.container.Container.go_on.Goals as goal

pub turn_of-requires : goal.turn_of-requires
turn_of-requires g c =
    subst (λ s. KnownStack (tables_of s) (state_of s).world c.in-Runs.stack) (sym c.self.view_is) (rw c.in-Runs.is at c.requires)

pub returns-in-Tells-clause-goes : goal.returns-in-Tells-clause-goes
returns-in-Tells-clause-goes g c = rw c.in-Tells.is c.tell_live.ensures.answers

pub returns-in-Ok-Finished-clause-goes : goal.returns-in-Ok-Finished-clause-goes
returns-in-Ok-Finished-clause-goes g c =
    let i = c.self.inside in
    let carries =
    subst (λ v. CarriesOut (tables_in i.runtime) (g.D.Driver.legal i.runtime.driver) (Unit {0}) (program_of c.in-Runs.stack) i.runtime.world (outcome_of c.in-Ok-Finished.outcome) v)
    (sym (ap (λ (x : ContainerState). x.world) c.close.ensures.state)) (CarriesOut.ends (rw c.in-Ok-Finished.field-0-is at c.in-Ok-Finished.ensures.turned)) in
    rw c.in-Runs.is
    (subst
    (λ s. KeepsOn (tables_of s) (g.D.Driver.legal s.runtime.driver) (lefts.Runs c.in-Runs.stack c.in-Runs.is_valued) (state_of s) (progresses.Finished c.close.result) (state_of c.close.new.self))
    c.self.view_is
    (c.in-Ok-Finished.outcome, carries, ap (λ (x : ContainerState). x.halted) c.close.ensures.state, c.close.ensures.reply))

pub returns-in-Err-clause-goes : goal.returns-in-Err-clause-goes
returns-in-Err-clause-goes g c =
    let i = c.self.inside in
    let cut = outcomes.Cut causes.Memory in
    let carries =
    subst (λ v. CarriesOut (tables_in i.runtime) (g.D.Driver.legal i.runtime.driver) (Unit {0}) (program_of c.in-Runs.stack) i.runtime.world (outcome_of cut) v)
    (sym (ap (λ (x : ContainerState). x.world) c.close-in-Err.ensures.state)) (CarriesOut.starves tt c.in-Err.ensures.turned) in
    rw c.in-Runs.is
    (subst
    (λ s. KeepsOn (tables_of s) (g.D.Driver.legal s.runtime.driver) (lefts.Runs c.in-Runs.stack c.in-Runs.is_valued) (state_of s) (progresses.Finished c.close-in-Err.result) (state_of c.close-in-Err.new.self))
    c.self.view_is
    (cut, carries, ap (λ (x : ContainerState). x.halted) c.close-in-Err.ensures.state, c.close-in-Err.ensures.reply))
