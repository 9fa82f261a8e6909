use Rattle.std.proofs.Common.{◌≢◌, length, rules}
use Rattle.cdi_text.proofs.Lengths.{no_begin}
use Rattle.cdi_text.proofs.command.begin_of.Goals as goal

pub returns-in_default : goal.returns-in_default
returns-in_default c =
    let not_one : length c.args.items.now ≢ 1 = search rules in
    let not_two : length c.args.items.now ≢ 2 = search rules in
    rw c.bad.ensures (no_begin c.args.items.now not_one not_two)
