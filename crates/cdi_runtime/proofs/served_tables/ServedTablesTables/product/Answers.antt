use Rattle.std.proofs.Common.{◌≡◌, ◌∙◌, option_map, sym, subst}
use Rattle.cdi_machine.specs.Told.{product_told}
use Rattle.cdi_run_tables.specs.Machine.{bean_at}
use Rattle.cdi_host.specs.Asked.{product_of}
use Rattle.cdi_runtime.proofs.Served.{same_product}
use Rattle.cdi_runtime.proofs.served_tables.ServedTablesTables.product.Goals as goal

pub returns-clause-product : goal.returns-clause-product
returns-clause-product c =
    subst (λ t. product_of (bean_at t c.args.bean) ≡ option_map (λ p. product_told p.now) c.product.result) c.self.view_is
    (same_product (bean_at c.self.inside.tables c.args.bean) ∙ sym c.product.ensures.product)
