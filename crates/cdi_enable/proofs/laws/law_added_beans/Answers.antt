use Rattle.cdi_enable.proofs.Added.{as_before}
use Rattle.cdi_enable.proofs.laws.law_added_beans.Goals as goal

pub returns : goal.returns
returns c = λ beans more forest larger bean within none r. as_before beans more forest larger bean within none r
