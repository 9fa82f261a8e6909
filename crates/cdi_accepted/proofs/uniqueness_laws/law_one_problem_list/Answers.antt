use Rattle.cdi_accepted.proofs.Verdicts.{one_verdict}
use Rattle.cdi_accepted.proofs.uniqueness_laws.law_one_problem_list.Goals as goal

pub returns : goal.returns
returns c = λ d shape_of these those a b. one_verdict d shape_of these those a b
