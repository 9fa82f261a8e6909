use Rattle.cdi_quals.proofs.Having.{has_its_own}
use Rattle.cdi_quals.proofs.laws.law_has_its_own.Goals as goal

pub returns : goal.returns
returns c = λ names uses set is. has_its_own uses set is
