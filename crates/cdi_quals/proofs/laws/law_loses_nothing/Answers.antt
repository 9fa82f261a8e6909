use Rattle.cdi_quals.proofs.Having.{loses_nothing}
use Rattle.cdi_quals.proofs.laws.law_loses_nothing.Goals as goal

pub returns : goal.returns
returns c = λ names uses more set larger is is-larger. loses_nothing uses more set larger is is-larger
