use Rattle.cdi_deploy.proofs.Readable.{read-within}
use Rattle.cdi_deploy.proofs.laws.law_limits.Goals as goal

pub returns : goal.returns
returns c = read-within
