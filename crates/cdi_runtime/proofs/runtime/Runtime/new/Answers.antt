use Rattle.std.proofs.Common.{sym, subst}
use Rattle.cdi_run_tables.specs.Machine.{machine_tables}
use Rattle.cdi_run_tables.specs.declared.tables.RunTables.{RunTables}
use Rattle.cdi_steps.specs.Driving.{Drives}
use Rattle.cdi_steps.specs.Known.{AllInvoked}
use Rattle.cdi_runtime.proofs.runtime.Runtime.new.Goals as goal

pub invariant_of-result : goal.invariant_of-result
invariant_of-result g c =
    let knows = g.D.Driver.knows c.args.driver in
    record {
      drives =
          subst (λ (t : RunTables). Drives (machine_tables t) knows) (sym c.new.ensures)
          c.requires.drives;
      invoked = subst (AllInvoked (machine_tables c.new.result)) (sym c.new-2.ensures) (record { all = tt });
    }
