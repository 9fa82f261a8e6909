use Rattle.cdi_accepted.proofs.Tables.{one_tables}
use Rattle.cdi_accepted.proofs.uniqueness_laws.law_one_bean_tables.Goals as goal

pub returns : goal.returns
returns c = λ d t u a b. one_tables d t u a b
