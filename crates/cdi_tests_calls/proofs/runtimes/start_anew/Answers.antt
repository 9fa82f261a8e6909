use Rattle.std.proofs.Common.{subst, sym}
use Rattle.cdi_run_tables.specs.Machine.{machine_tables}
use Rattle.cdi_steps.specs.Known.{AllInvoked}
use Rattle.cdi_tests_calls.proofs.runtimes.start_anew.Goals as goal

pub invariant_of-runtime : goal.invariant_of-runtime
invariant_of-runtime g c =
    record {
      drives = c.runtime.invariant.drives;
      invoked = subst (AllInvoked (machine_tables c.runtime.inside.tables)) (sym c.new.ensures) (record { all = tt });
    }
