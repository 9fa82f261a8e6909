use Rattle.cdi_plans.specs.Chains.{is_bound}
use Rattle.cdi_plans.proofs.Places.{rising}
use Rattle.cdi_plans.proofs.laws.law_in_order.Goals as goal

pub returns : goal.returns
returns c = λ method had interceptors. rising (is_bound method had) 0 interceptors
