use Rattle.cdi_enable.proofs.Free.{once}
use Rattle.cdi_enable.proofs.laws.law_one_answer.Goals as goal

pub returns : goal.returns
returns c = λ beans b r s x y. once b r s x y
