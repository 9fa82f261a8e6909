use Rattle.std.proofs.Common.{◌∙◌, ap}
use Rattle.cdi_bean_lives.proofs.Numbering.{methods_numbered}
use Rattle.cdi_numbered_plans.specs.Numbers.{numbers_methods}
use Rattle.cdi_types.specs.Members.{members_of}
use Rattle.cdi_bean_lives.proofs.own.all_methods.Goals as goal

pub named_methods-requires : goal.named_methods-requires
named_methods-requires c =
    ap numbers_methods (c.as_slice.ensures ∙ c.in_ok-methods.ensures.are)
    ∙ methods_numbered c.args.planner.now.chains c.requires c.args.class (members_of c.in_ok-methods.ensures.line)
