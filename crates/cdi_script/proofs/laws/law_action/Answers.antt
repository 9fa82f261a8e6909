use Rattle.cdi_script.proofs.Rests.{rests}
use Rattle.cdi_script.proofs.laws.law_action.Goals as goal

pub returns : goal.returns
returns c = rests
