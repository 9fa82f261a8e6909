use Rattle.cdi_paths.proofs.Paths.{join}
use Rattle.cdi_paths.proofs.path_laws.law_paths_join.Goals as goal

pub returns : goal.returns
returns c = λ graph a b c. join graph
