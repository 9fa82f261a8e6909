use Rattle.cdi_script.proofs.Within.{next_of-in_shape}
use Rattle.cdi_script.proofs.script.Script.stays_in_shape.Goals as goal

pub returns : goal.returns
returns c = next_of-in_shape c.args._script.now
