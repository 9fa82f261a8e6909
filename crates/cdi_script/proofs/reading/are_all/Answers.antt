use Rattle.std.proofs.Common.{◌∙◌, rules, tests}
use Rattle.std.proofs.lemmas.Iterator.{YieldsList-from_slice}
use Rattle.std.proofs.lemmas.Iterator.Search.{all_from_yields_List}
use Rattle.serde_json.specs.View.{view}
use Rattle.cdi_script.proofs.Lists.{list_all-view}
use Rattle.cdi_script.proofs.reading.are_all.Goals as goal

pub returns : goal.returns
returns g c =
    let test = g.T.Item.test in
    let all = all_from_yields_List (λ x. test (view x)) _ _ c.all.result c.all.ensures.ran (YieldsList-from_slice c.args.values.now cc) (λ x b q k. search (rules, tests)) in
    all ∙ list_all-view test c.args.values.now
