use Rattle.std.proofs.Common.{◌≢◌, length, rules}
use Rattle.cdi_text.proofs.Lengths.{no_read}
use Rattle.cdi_text.proofs.command.read_of.Goals as goal

pub returns-in_default : goal.returns-in_default
returns-in_default c =
    let other : length c.args.items.now ≢ 3 = search rules in
    rw c.bad.ensures (no_read c.args.items.now other)
