use Rattle.std.proofs.Common.{◌∙◌, ap, option_and_then, option_map, sym}
use Rattle.cdi_bean_lives.specs.Beans.{numbered_at}
use Rattle.cdi_machine.specs.Resolved.{IsResolvedProduct}
use Rattle.cdi_machine.specs.Told.{product_told}
use Rattle.cdi_numbered_plans.specs.Plans.{product_in}
use Rattle.cdi_run_tables.specs.Numbered as spec
use Rattle.cdi_run_tables.proofs.Telling.{lent, lent_so, no_kind, product_is_told, product_resolved, resolved_at, tells_at}
use Rattle.cdi_run_tables.proofs.tables.RunTables.product.Goals as goal

pub returns-then-is_enabled-clause-product : goal.returns-then-is_enabled-clause-product
returns-then-is_enabled-clause-product c =
    let t = c.args.self.now in
    let told = tells_at c.self.inside.parts c.self.invariant.kept c.args.bean t c.self.view_is (sym c.is_enabled.ensures ∙ c.if-is_enabled.true) c.requires in
    lent product_told c.product.result ∙ ap (option_map product_told) c.product.ensures
    ∙ product_is_told (spec.kind_at t c.args.bean) (numbered_at c.self.inside.parts.beans c.args.bean) told

pub returns-then-is_enabled-clause-resolved : goal.returns-then-is_enabled-clause-resolved
returns-then-is_enabled-clause-resolved c =
    let t = c.args.self.now in
    let on = sym c.is_enabled.ensures ∙ c.if-is_enabled.true in
    let numbered = numbered_at c.self.inside.parts.beans c.args.bean in
    let resolved = resolved_at c.self.inside.parts c.self.invariant.kept c.args.bean t c.self.view_is on in
    lent_so (IsResolvedProduct (spec.machine_resolve t)) c.product.result (option_and_then product_in numbered) c.product.ensures
    (product_resolved (spec.machine_resolve t) numbered resolved)

pub returns-clause-product : goal.returns-clause-product
returns-clause-product c =
    ap spec.product_in (no_kind c.args.self.now c.args.bean (sym c.is_enabled.ensures ∙ c.if-is_enabled.false))
