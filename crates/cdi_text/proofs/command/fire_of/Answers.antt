use Rattle.std.proofs.Common.{◌≢◌, length, rules}
use Rattle.cdi_text.proofs.Lengths.{no_fire}
use Rattle.cdi_text.proofs.command.fire_of.Goals as goal

pub returns-in_default : goal.returns-in_default
returns-in_default c =
    let other : length c.args.items.now ≢ 4 = search rules in
    rw c.bad.ensures (no_fire c.args.items.now other)
