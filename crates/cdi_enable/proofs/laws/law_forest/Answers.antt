use Rattle.cdi_enable.proofs.Forests.{forest_of}
use Rattle.cdi_enable.proofs.laws.law_forest.Goals as goal

pub returns : goal.returns
returns c = λ d list made. forest_of d list made
