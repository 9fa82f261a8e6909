use Rattle.cdi_paths.proofs.OneWay.{one_way}
use Rattle.cdi_paths.proofs.path_laws.law_one_way.Goals as goal

pub returns : goal.returns
returns c = one_way
