-- The law is proved in Worked.
use Rattle.cdi_whole.proofs.WorkedFarewells.{some_begin_once}
use Rattle.cdi_whole.proofs.laws.law_some_begin_once.Goals as goal

pub returns : goal.returns
returns c = record { some = some_begin_once }
