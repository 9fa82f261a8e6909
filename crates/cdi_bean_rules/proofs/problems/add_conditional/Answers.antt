use Rattle.cdi_bean_check.proofs.PlaceSets.{on_ok}
use Rattle.cdi_bean_rules.proofs.SameRules.{adds_same, same_conditional}
use Rattle.cdi_bean_rules.proofs.problems.add_conditional.Goals as goal

pub returns : goal.returns
returns c =
    on_ok c.add_found.result
    (λ adds. adds_same _ _ (same_conditional c.args.classes.now c.args.types.now c.in_ok-places.places c.in_ok-places.ensures) _ _ _ _ adds)
    c.add_found.ensures
