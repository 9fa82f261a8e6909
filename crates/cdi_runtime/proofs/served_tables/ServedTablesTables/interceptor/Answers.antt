use Rattle.std.proofs.Common.{◌≡◌, option_map, sym, subst}
use Rattle.cdi_run_tables.specs.Machine.{interceptor_at}
use Rattle.cdi_runtime.proofs.served_tables.ServedTablesTables.interceptor.Goals as goal

pub returns : goal.returns
returns c =
    subst (λ t. option_map (λ j. j.name) (interceptor_at t c.args.interceptor) ≡ c.interceptor_name.result) c.self.view_is (sym c.interceptor_name.ensures)
