use Rattle.cdi_resolve.proofs.Eligible.{one_is_eligible}
use Rattle.cdi_resolve.proofs.laws.law_one_is_eligible.Goals as goal

pub returns : goal.returns
returns c = λ type qualifiers beans b e. one_is_eligible type qualifiers beans b e
