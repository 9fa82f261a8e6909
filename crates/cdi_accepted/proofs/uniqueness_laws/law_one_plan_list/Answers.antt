use Rattle.cdi_accepted.proofs.Plans.{one_plan_list}
use Rattle.cdi_accepted.proofs.uniqueness_laws.law_one_plan_list.Goals as goal

pub returns : goal.returns
returns c = λ t beans these those a b. one_plan_list t beans these those a b
