use Rattle.cdi_run_tables.specs.Machine.{machine_tables}
use Rattle.cdi_container.proofs.Thrown.{names_thrown}
use Rattle.cdi_container.proofs.laws.law_thrown_has_name.Goals as goal

pub returns : goal.returns
returns g c tables fits =
    names_thrown tables (g.D.Driver.legal c.args.driver.now) (c.law_thrown_has_text.ensures.with_memory (machine_tables tables)) fits
