use Rattle.std.proofs.Common.{◌∙◌, ap}
use Rattle.cdi_plans.specs.BeanBindings.{stands_in_some}
use Rattle.cdi_plans.specs.Chains.{ChainTables, intercepts, places_from}
use Rattle.cdi_plans.proofs.Places.{same_places}
use Rattle.cdi_plans.proofs.chains.Chains.interceptors_of.Goals as goal

pub returns : goal.returns
returns c =
    let gathered = stands_in_some c.in_ok-bindings.bindings in
    c.in_ok-places.ensures
    ∙ ap (places_from gathered 0) c.as_slice.ensures
    ∙ ap (λ (t : ChainTables). places_from gathered 0 t.interceptors) c.self.view_is
    ∙ same_places gathered (intercepts c.args.self.now c.args.bean.now) c.in_ok-bindings.ensures 0 c.args.self.now.interceptors
