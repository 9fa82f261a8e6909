use Rattle.std.proofs.Common.{◌∙◌, sym}
use Rattle.cdi_numbered_plans.proofs.Told.{product_made}
use Rattle.cdi_numbered_plans.proofs.product.numbered_product.Goals as goal

pub returns-then-can_number-clause-numbered : goal.returns-then-can_number-clause-numbered
returns-then-can_number-clause-numbered c =
    product_made c.args.numbering.now c.args.plan.now (sym c.can_number.ensures ∙ c.if-can_number.true) c.declared_product.result c.declared_product.ensures.product
