use Rattle.cdi_steps.specs.Words.{command_of}
use Rattle.cdi_container.specs.Standing.{state_of}
use Rattle.cdi_container.proofs.Admitting.{answered_before, ready}
use Rattle.cdi_container.proofs.TurnCounts.{same_then}
use Rattle.cdi_container.proofs.container.Container.carry_out_known.Goals as goal

pub carry_out_admitted-requires : goal.carry_out_admitted-requires
carry_out_admitted-requires g c =
    ready c.admit_job-admitted.ensures.same (command_of c.args.job) c.admit_job-admitted.result c.admit_job-admitted.ensures.admits

pub returns-clause-answers : goal.returns-clause-answers
returns-clause-answers g c =
    answered_before c.admit_job-admitted.ensures.same (command_of c.args.job) c.admit_job-admitted.result c.admit_job-admitted.ensures.admits
    (c.carry_out_admitted.ensures.answers (state_of c.args.self.now) (command_of c.args.job))

pub returns-clause-same : goal.returns-clause-same
returns-clause-same g c = same_then c.admit_job-admitted.ensures.same c.carry_out_admitted.ensures.same
