use Rattle.std.proofs.Common.{ap, ◌∙◌}
use Rattle.cdi_bean_lives.proofs.Numbering.{lifecycle_numbered}
use Rattle.cdi_numbered_plans.specs.Numbers.{numbers_lifecycle}
use Rattle.cdi_bean_lives.proofs.bean.life_with.Goals as goal

pub lifecycle_of-requires : goal.lifecycle_of-requires
lifecycle_of-requires c =
    let t = c.args.planner.now.chains in
    ap numbers_lifecycle c.in_ok-named.ensures ∙ lifecycle_numbered t c.requires c.args.bean c.args.method c.empty.result
