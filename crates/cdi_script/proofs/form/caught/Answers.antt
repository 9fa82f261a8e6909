use Rattle.std.proofs.Common.{sym, arith}
use Rattle.cdi_script.proofs.Long.{one_catches_nothing, three_catch_nothing}
use Rattle.cdi_script.proofs.form.caught.Goals as goal

pub returns-in-len1 : goal.returns-in-len1
returns-in-len1 c = sym (one_catches_nothing c.args.items.now (omega arith))

pub returns-in-len3-up : goal.returns-in-len3-up
returns-in-len3-up c = sym (three_catch_nothing c.args.items.now (omega arith))
