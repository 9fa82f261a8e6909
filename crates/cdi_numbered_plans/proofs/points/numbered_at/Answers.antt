use Rattle.std.proofs.Common.{◌∙◌, ap}
use Rattle.cdi_bean_check.specs.Qualifiers.{full_uses}
use Rattle.cdi_numbered_plans.proofs.Within.{has_number}
use Rattle.cdi_numbered_plans.proofs.points.numbered_at.Goals as goal
use Rattle.cdi_resolve.specs.Resolution.{resolution}

pub numbered-requires : goal.numbered-requires
numbered-requires c =
    let n = c.args.numbering.now in
    let uses = full_uses n.qualifiers.now c.args.uses.now in
    has_number c.args.ty uses n.resolver.now c.requires.few c.in_ok-resolved.resolved (c.in_ok-resolved.ensures.told ∙ ap (resolution c.args.ty uses) c.requires.asks)
