use Rattle.std.proofs.Common.{◌∙◌, sym, ap}
use Rattle.cdi_machine.specs.Container.{refusal}
use Rattle.cdi_container.specs.Standing.{state_of, tables_of}
use Rattle.cdi_container.specs.States.{machine_state}
use Rattle.cdi_container.proofs.container.Container.admit_job.Goals as goal

pub returns-in-None-clause-admits : goal.returns-in-None-clause-admits
returns-in-None-clause-admits g c =
    let s = c.args.self.now in
    let told = sym c.refusal.ensures.refusal ∙ c.in-None.is in
    let unrefused = ap (λ k. refusal (tables_of s) (machine_state (state_of s)) k) c.refusal.ensures.command ∙ told in (
      c.refusal.ensures.command,
      record { unrefused = unrefused; known = c.refusal.ensures.known c.in-None.is },
      c.refusal.ensures.rightly,
      ap (λ k. state_of k) c.refusal.ensures.kept,
    )
