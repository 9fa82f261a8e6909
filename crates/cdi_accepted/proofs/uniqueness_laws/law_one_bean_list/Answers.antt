use Rattle.cdi_accepted.proofs.BeanLists.{one_list}
use Rattle.cdi_accepted.proofs.uniqueness_laws.law_one_bean_list.Goals as goal

pub returns : goal.returns
returns c = λ d list other a b. one_list d list other a b
