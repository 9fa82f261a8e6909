use Rattle.cdi_shell.proofs.OneOutput.{one_output}
use Rattle.cdi_shell.proofs.laws.law_one_output.Goals as goal

pub returns : goal.returns
returns c = one_output
