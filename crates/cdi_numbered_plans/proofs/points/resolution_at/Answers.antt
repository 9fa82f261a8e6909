use Rattle.std.proofs.Common.{◌∙◌}
use Rattle.cdi_bean_check.specs.Qualifiers.{IsSetOf, full_uses}
use Rattle.cdi_numbered_plans.proofs.Resolving.{same_resolution}
use Rattle.cdi_numbered_plans.proofs.points.resolution_at.Goals as goal
use Rattle.cdi_resolve.specs.Filters.{enabled_of}

pub returns-clause-told : goal.returns-clause-told
returns-clause-told c =
    let types = c.args.qualifiers.now in
    let set = c.in_ok-required.required in
    let uses = c.args.uses.now in
    let is : IsSetOf c.args.names.now types uses set = c.in_ok-required.ensures in
    c.find.ensures.told ∙ same_resolution (full_uses types uses) set is c.args.ty (enabled_of c.args.lookup.now.now)
