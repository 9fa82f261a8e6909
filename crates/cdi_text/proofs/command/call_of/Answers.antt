use Rattle.std.proofs.Common.{◌≢◌, length, rules}
use Rattle.cdi_text.proofs.Lengths.{no_call}
use Rattle.cdi_text.proofs.command.call_of.Goals as goal

pub returns-in_default : goal.returns-in_default
returns-in_default c =
    let other : length c.args.items.now ≢ 5 = search rules in
    rw c.bad.ensures (no_call c.args.items.now other)
