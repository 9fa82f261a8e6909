use Rattle.std.proofs.Common.{◌∙◌, sym, ap}
use Rattle.std.specs.List.{list_all}
use Rattle.serde_json.specs.View.{members_view}
use Rattle.cdi_form.specs.Keys.{is_met}
use Rattle.cdi_form.specs.Table.{row_of}
use Rattle.std.proofs.lemmas.List.Folds.{list_all-map}
use Rattle.cdi_form.proofs.keys.has_required.Goals as goal

pub returns : goal.returns
returns c =
    let test = is_met (members_view c.args.members.now.entries) in
    c.are_met.ensures ∙ sym (list_all-map test row_of c.rows.result.now) ∙ ap (list_all test) c.rows.ensures
