use Rattle.std.proofs.Common.{◌≢◌, length, rules}
use Rattle.cdi_text.proofs.Lengths.{no_name}
use Rattle.cdi_text.proofs.command.name_alone.Goals as goal

pub returns-in_default : goal.returns-in_default
returns-in_default c =
    let other : length c.args.items.now ≢ 1 = search rules in
    rw c.bad.ensures (no_name c.args.items.now other)
