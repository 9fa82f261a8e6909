use Rattle.std.proofs.Common.{◌∙◌, sym, subst}
use Rattle.cdi_machine.specs.Commands.{task}
use Rattle.cdi_run_tables.specs.Machine.{machine_tables}
use Rattle.cdi_runtime.specs.Standing.{RuntimeParts}
use Rattle.cdi_steps.proofs.Driving.{still_drives}
use Rattle.cdi_steps.specs.Known.{KnownJob}
use Rattle.cdi_steps.specs.Leads.{Ran}
use Rattle.cdi_steps.specs.Words.{command_of}
use Rattle.cdi_container.specs.States.CarriesOut.{ends, starves}
use Rattle.cdi_container.proofs.container.carry_out.Goals as goal
use Rattle.cdi_container.proofs.container.carry_out.Goals.{in-Ok, in-Err}

pub invariant_of-runtime : goal.invariant_of-runtime
invariant_of-runtime g c =
    record { drives = still_drives c.run.ensures.narrows c.runtime.invariant.drives; invoked = c.run.ensures.invoked }

pub returns-clause-carries : goal.returns-clause-carries
returns-clause-carries g c =
    let ran =
    subst
    (λ (r : RuntimeParts _). Ran (machine_tables r.tables) (g.D.Driver.legal r.driver) (task (command_of c.args.job)) r.world c.run.result c.run.new.world)
    (c.runtime.view_is ∙ c.begin.ensures) c.run.ensures.ran in
    elim c.match-run.branch [
      | in-Ok w ↦ rw w.result-is (ends (rw w.in-Ok.is at ran))
      | in-Err w ↦ rw w.result-is (starves tt (rw w.in-Err.is at ran))
    ]

-- a command that begins changes no contexts
pub run-requires-clause-known : goal.run-requires-clause-known
run-requires-clause-known g c =
    subst (λ (r : RuntimeParts _). KnownJob (machine_tables r.tables) r.world c.args.job) (sym (c.runtime.view_is ∙ c.begin.ensures)) c.requires
