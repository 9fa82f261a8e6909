use Rattle.std.proofs.Common.{ap}
use Rattle.cdi_plans.specs.Chains.{chain_of}
use Rattle.cdi_plans.proofs.Bound.{all_of_class}
use Rattle.cdi_plans.proofs.chain.Chain.of_lifecycle.Goals as goal

pub returns : goal.returns
returns c = ap (λ had. chain_of c.args.method had c.args.interceptors.now) (all_of_class c.args.of_class.now)
