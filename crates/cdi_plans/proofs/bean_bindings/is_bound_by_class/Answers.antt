use Rattle.std.proofs.Common.{◌∙◌, ap}
use Rattle.cdi_plans.specs.Chains.{is_bound}
use Rattle.cdi_plans.proofs.Bound.{all_of_class}
use Rattle.cdi_plans.proofs.bean_bindings.is_bound_by_class.Goals as goal

pub returns : goal.returns
returns c = c.is_bound.ensures ∙ ap (λ had. is_bound c.args.method had c.args.interceptor.now) (all_of_class c.args.of_class.now)
