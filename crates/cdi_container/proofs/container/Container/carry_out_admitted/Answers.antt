use Rattle.std.proofs.Common.{subst}
use Rattle.cdi_container.specs.Standing.{state_of, tables_of}
use Rattle.cdi_container.specs.States.{AnswersCommand}
use Rattle.cdi_container.specs.Turns.{AdmitsCommand}
use Rattle.cdi_container.proofs.container.Container.carry_out_admitted.Goals as goal

pub returns-in-Ok-clause-answers : goal.returns-in-Ok-clause-answers
returns-in-Ok-clause-answers g c = λ s k admits.
    let old = c.args.self.now in
    let told = subst (λ r. AdmitsCommand (tables_of old) s k r (state_of old)) c.in-Ok.is admits in
    let t = state_of c.carry_out_job.new.self in
    let answers =
    subst (λ x. AnswersCommand (tables_of old) (g.D.Driver.legal old.runtime.driver) (Unit {0}) (state_of old) x c.carry_out_job.result t) told.0 c.carry_out_job.ensures.answers in
    subst (λ x. AnswersCommand (tables_of old) (g.D.Driver.legal old.runtime.driver) (Unit {0}) x k c.carry_out_job.result t) told.3 answers

pub returns-in-Err-clause-answers : goal.returns-in-Err-clause-answers
returns-in-Err-clause-answers g c = λ s k admits.
    c.answer_unadmitted.ensures.answers s k
    (subst (λ r. AdmitsCommand (tables_of c.args.self.now) s k r (state_of c.args.self.now)) c.in-Err.is admits)
