use Rattle.std.proofs.Common.{◌∙◌, ap, subst}
use Rattle.cdi_container.specs.Commands.{machine_command}
use Rattle.cdi_container.specs.Standing.{state_of, tables_of}
use Rattle.cdi_container.specs.Turns.{AdmitsCommand}
use Rattle.cdi_container.proofs.container.Container.admit.Goals as goal

pub admit_job-requires : goal.admit_job-requires
admit_job-requires g c = c.in-Ok.ensures.rightly (tables_of c.args.self.now)

pub returns-in-Ok-clause-admits : goal.returns-in-Ok-clause-admits
returns-in-Ok-clause-admits g c =
    let s = c.args.self.now in
    let is = c.in-Ok.ensures.command ∙ ap (λ names. machine_command names c.args.command.now) c.names.ensures in
    subst (λ k. AdmitsCommand (tables_of s) (state_of s) k c.admit_job.result (state_of c.admit_job.new.self)) is c.admit_job.ensures.admits
