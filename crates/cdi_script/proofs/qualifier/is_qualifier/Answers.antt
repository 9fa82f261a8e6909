use Rattle.std.proofs.Common.{◌≡◌, true, is_some}
use Rattle.serde_json.specs.View.{view}
use Rattle.cdi_form.specs.ValueForms.{use_in}
use Rattle.cdi_script.proofs.UseNames.{named_use}
use Rattle.cdi_script.proofs.qualifier.is_qualifier.Goals as goal

pub returns-then-is_use : goal.returns-then-is_use
returns-then-is_use c =
    let is_use : is_some (use_in (view c.args.value.now)) ≡ true = cc in
    let same = named_use (view c.args.value.now) is_use in
    cc
