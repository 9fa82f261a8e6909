use Rattle.cdi_check.proofs.Accepted.{accepted}
use Rattle.cdi_check.proofs.laws.law_accepted.Goals as goal

pub returns : goal.returns
returns c = λ d shape_of are. accepted d shape_of are
