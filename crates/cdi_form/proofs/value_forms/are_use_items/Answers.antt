use Rattle.std.proofs.Common.{◌≢◌, length, refl, rules}
use Rattle.cdi_form.proofs.Lengths.{no_use}
use Rattle.cdi_form.proofs.value_forms.are_use_items.Goals as goal

pub returns-in_default : goal.returns-in_default
returns-in_default c =
    let other : length c.args.items.now ≢ 2 = search rules in
    rw (no_use c.args.items.now other) refl

pub returns-in_default-2 : goal.returns-in_default-2
returns-in_default-2 c =
    let other : length c.args.items.now ≢ 2 = search rules in
    rw (no_use c.args.items.now other) refl
