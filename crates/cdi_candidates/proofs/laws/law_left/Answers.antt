use Rattle.cdi_candidates.proofs.Sole.{sole_left}
use Rattle.cdi_resolve.specs.Resolution.{eligible}
use Rattle.cdi_candidates.proofs.laws.law_left.Goals as goal

pub returns : goal.returns
returns c = λ type qualifiers beans. sole_left (eligible type qualifiers beans)
