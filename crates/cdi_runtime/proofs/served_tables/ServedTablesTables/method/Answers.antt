use Rattle.std.proofs.Common.{◌≡◌, ◌∙◌, option_map, sym, subst}
use Rattle.cdi_machine.specs.Told.{method_told}
use Rattle.cdi_run_tables.specs.Machine.{machine_tables}
use Rattle.cdi_host.specs.Asked.{method_at}
use Rattle.cdi_runtime.proofs.Served.{method_is}
use Rattle.cdi_runtime.proofs.served_tables.ServedTablesTables.method.Goals as goal

pub returns : goal.returns
returns c =
    subst (λ t. method_at (machine_tables t) c.args.bean c.args.name ≡ option_map (λ m. method_told m.now) c.business_method.result) c.self.view_is
    (method_is c.self.inside.tables c.args.bean c.args.name ∙ sym c.business_method.ensures)
