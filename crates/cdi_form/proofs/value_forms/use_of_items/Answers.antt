use Rattle.std.proofs.Common.{◌≢◌, length, refl, rules}
use Rattle.cdi_form.proofs.Lengths.{no_use}
use Rattle.cdi_form.proofs.value_forms.use_of_items.Goals as goal

pub returns-in_default : goal.returns-in_default
returns-in_default c =
    let other : length c.args.items.now ≢ 2 = search rules in
    rw (no_use c.args.items.now other) refl
