use Rattle.cdi_planner.proofs.Inheriting.{injections_below}
use Rattle.cdi_planner.proofs.laws.law_injections_are_inherited.Goals as goal

pub returns : goal.returns
returns c = λ line class. injections_below class line
