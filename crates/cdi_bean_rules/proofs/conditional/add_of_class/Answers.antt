use Rattle.std.proofs.Common.{◌≡◌, ◌∙◌, ◌||◌, List, refl, sym, ap}
use Rattle.cdi_deployment.specs.declared.deployment.Class.{Class}
use Rattle.cdi_deployment.specs.declared.deployment.Member.{Member}
use Rattle.cdi_types.specs.Members.{members_of}
use Rattle.cdi_bean_check.specs.Inherited.{AreMembersOf}
use Rattle.cdi_bean_check.specs.MemberPlaces.{has_place, stands_at}
use Rattle.cdi_bean_rules.specs.Observers.{conditional_places}
use Rattle.cdi_bean_check.proofs.PlaceSets.{on_ok}
use Rattle.cdi_bean_rules.proofs.ConditionalPlaces.{of_dependent}
use Rattle.cdi_bean_rules.proofs.ObserverKinds.{conditional-of_accepted}
use Rattle.cdi_bean_rules.proofs.conditional.add_of_class.Goals as goal

pub returns : goal.returns
returns c =
    let classes = c.args.index.now in
    let types = c.args.types.now in
    let class = c.args.class.now in
    let has : List (Class × Member) = members_of c.in_ok-line.line in
    let are : AreMembersOf classes types class has = record { line = c.in_ok-line.line; is_line = c.in_ok-line.ensures; are = refl } in
    let same : conditional_places c.as_slice.result.now ≡ conditional_places has =
    ap conditional_places (c.as_slice.ensures ∙ c.in_ok-observers.ensures) ∙ conditional-of_accepted has in
    on_ok c.add_conditional.result
    (λ adds. of_dependent classes types c.args.found.now c.add_conditional.new.found class has (sym c.has_dependent_scope.ensures ∙ c.if-not-has_dependent_scope.false) are
    (λ place. adds place ∙ ap (λ places. stands_at places place || has_place c.args.found.now place) same))
    c.add_conditional.ensures
