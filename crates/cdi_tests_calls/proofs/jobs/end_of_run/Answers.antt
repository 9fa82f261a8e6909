use Rattle.std.proofs.Common.{◌∙◌, sym, subst}
use Rattle.cdi_run_tables.specs.Machine.{machine_tables}
use Rattle.cdi_runtime.specs.Standing.{RuntimeParts}
use Rattle.cdi_steps.specs.Known.{KnownJob}
use Rattle.cdi_steps.proofs.Driving.{still_drives}
use Rattle.cdi_tests_calls.proofs.jobs.end_of_run.Goals as goal

pub invariant_of-runtime : goal.invariant_of-runtime
invariant_of-runtime g c =
    record { drives = still_drives c.run-ended.ensures.narrows c.runtime.invariant.drives; invoked = c.run-ended.ensures.invoked }

pub run-ended-requires-clause-known : goal.run-ended-requires-clause-known
run-ended-requires-clause-known g c =
    subst (λ (r : RuntimeParts _). KnownJob (machine_tables r.tables) r.world c.args.job) (sym (c.runtime.view_is ∙ c.begin.ensures)) c.requires
