use Rattle.std.proofs.Common.{arith}
use Rattle.cdi_text.proofs.Lengths.{no_more}
use Rattle.cdi_text.proofs.command.alone.Goals as goal

pub returns-in-len1-up : goal.returns-in-len1-up
returns-in-len1-up c = rw c.bad.ensures (no_more c.args.command c.args.items.now (omega arith))
