use Rattle.cdi_deploy.proofs.Readable.{read-knows}
use Rattle.cdi_deploy.proofs.laws.law_known_names.Goals as goal

pub returns : goal.returns
returns c = read-knows
