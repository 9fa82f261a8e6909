use Rattle.cdi_paths.proofs.Heights.{height-falls}
use Rattle.cdi_paths.proofs.path_laws.law_walks_end.Goals as goal

pub returns : goal.returns
returns c = λ graph ok acyclic a b e. height-falls graph ok a b e (acyclic b)
