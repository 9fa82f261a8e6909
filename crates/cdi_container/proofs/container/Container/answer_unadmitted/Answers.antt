use Rattle.std.proofs.Common.{◌∙◌, Err, refl, ap, subst}
use Rattle.cdi_container.specs.Standing.{state_of, tables_of}
use Rattle.cdi_container.specs.States.{without_memory}
use Rattle.cdi_container.specs.States.AnswersCommand.{refuses}
use Rattle.cdi_container.specs.Turns.{AdmitsCommand}
use Rattle.cdi_container.proofs.Starving.{starved_answer}
use Rattle.cdi_container.proofs.container.Container.answer_unadmitted.Goals as goal

pub returns-in-Refused-clause-answers : goal.returns-in-Refused-clause-answers
returns-in-Refused-clause-answers g c = λ s k admits.
    let told = subst (λ why. AdmitsCommand (tables_of c.args.self.now) s k (Err why) (state_of c.args.self.now)) c.in-Refused.is admits in
    refuses c.in-Refused.refusal told.0 refl told.1

pub returns-in-Starves-clause-answers : goal.returns-in-Starves-clause-answers
returns-in-Starves-clause-answers g c = λ s k admits.
    let old = c.args.self.now in
    let told = subst (λ why. AdmitsCommand (tables_of old) s k (Err why) (state_of old)) c.in-Starves.is admits in
    starved_answer (tables_of old) (g.D.Driver.legal old.runtime.driver) s (state_of c.starve.new.self) c.starve.result c.starve.ensures.reply (c.starve.ensures.state ∙ ap without_memory told.1) k told.0
