use Rattle.std.proofs.Common.{◌∙◌, refl}
use Rattle.cdi_steps.specs.declared.task.Job.TheVariants as jobs
use Rattle.cdi_steps.specs.Words.{outcome_of}
use Rattle.cdi_container.specs.States.AnswersCommand.{carries_out}
use Rattle.cdi_container.proofs.Replying.{replied}
use Rattle.cdi_container.proofs.container.Container.start.Goals as goal

pub returns : goal.returns
returns g c =
    let outcome = c.carry_out-outcome.result in
    let world = c.carry_out-outcome.new.runtime.world in
    let keeps = rw c.new-runtime.ensures at c.carry_out-outcome.ensures.keeps in
    record {
      names = keeps.names;
      tables = keeps.tables;
      legal = keeps.legal;
      boots =
          carries_out (outcome_of outcome) refl (rw c.new-runtime.ensures at c.carry_out-outcome.ensures.carries) c.cause.ensures
          (c.reply_of.ensures ∙ replied jobs.Boot outcome world tt);
    }
