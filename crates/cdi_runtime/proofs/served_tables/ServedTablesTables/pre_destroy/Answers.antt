use Rattle.std.proofs.Common.{◌≡◌, ◌∙◌, option_map, sym, subst}
use Rattle.cdi_machine.specs.Told.{lifecycle_told}
use Rattle.cdi_run_tables.specs.Machine.{bean_at}
use Rattle.cdi_host.specs.Asked.{pre_destroy_of}
use Rattle.cdi_runtime.proofs.Served.{same_pre_destroy}
use Rattle.cdi_runtime.proofs.served_tables.ServedTablesTables.pre_destroy.Goals as goal

pub returns : goal.returns
returns c =
    subst (λ t. pre_destroy_of (bean_at t c.args.bean) ≡ option_map (λ l. lifecycle_told l.now) c.pre_destroy.result) c.self.view_is
    (same_pre_destroy (bean_at c.self.inside.tables c.args.bean) ∙ sym c.pre_destroy.ensures)
