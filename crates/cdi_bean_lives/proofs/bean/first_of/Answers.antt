use Rattle.std.proofs.Common.{◌∙◌, ap}
use Rattle.std.specs.List.{list_all}
use Rattle.cdi_bean_lives.proofs.Numbering.{first_numbered}
use Rattle.cdi_numbered_plans.specs.Numbers.{numbers_step}
use Rattle.cdi_planner.specs.Plans.{constructor_of}
use Rattle.cdi_bean_lives.proofs.bean.first_of.Goals as goal

pub steps_of-requires-clause-numbers : goal.steps_of-requires-clause-numbers
steps_of-requires-clause-numbers c =
    let t = c.args.planner.now in
    ap (list_all numbers_step) (c.as_slice.ensures ∙ c.in_ok-first.ensures)
    ∙ first_numbered t.chains c.requires.few (constructor_of t.classes c.args.bean.now.class) c.args.bean.now
