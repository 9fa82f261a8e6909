-- The places of conditional observers of beans of the dependent pseudo-scope.
use Rattle.std.proofs.Common.{◌≡◌, ◌∙◌, ◌||◌, inl, inr, true, List, sym, ap}
use Rattle.std.specs.HashSet.{HashSet}
use Rattle.cdi_deployment.specs.declared.deployment.Class.{Class}
use Rattle.cdi_deployment.specs.declared.deployment.Member.{Member}
use Rattle.cdi_types.specs.Members.{members_of}
use Rattle.cdi_types.proofs.Lines.{one_line}
use Rattle.cdi_types.specs.declared.declaration.TypeDeclaration.{TypeDeclaration}
use Rattle.cdi_bean_check.specs.Inherited.{AreMembersOf}
use Rattle.cdi_bean_check.specs.ManagedBeans.{has_dependent_scope}
use Rattle.cdi_bean_check.specs.MemberPlaces.{MemberPlace, has_place, stands_at, AddsPlaces}
use Rattle.cdi_bean_rules.specs.Observers.{conditional_places, HasConditionalAt}
use Rattle.cdi_bean_check.proofs.PlaceSets.{either, by_first, by_second}

module _ {S : Type 0} (classes : List Class) (types : List TypeDeclaration) (old new : HashSet MemberPlace S) where
  -- the conditional observers of a bean of the dependent pseudo-scope
  pub of_dependent : (bean : Class) (has : List (Class × Member)) → has_dependent_scope bean.bean ≡ true → AreMembersOf classes types bean has
      → ((place : MemberPlace) → has_place new place ≡ (stands_at (conditional_places has) place || has_place old place))
      → AddsPlaces (HasConditionalAt classes types bean) old new
  of_dependent bean has dependent are is place = (
    λ h. (elim (either (stands_at (conditional_places has) place) (has_place old place) (sym (is place) ∙ h)) [
      | inl there ↦ inl (record { dependent = dependent; has = has; are = are; conditional = there })
      | inr before ↦ inr before
    ]),
    λ s. is place ∙ (elim s [
      | inl there ↦ (
          let line = one_line types classes bean.name there.are.line are.line there.are.is_line are.is_line in
          let same : there.has ≡ has = there.are.are ∙ ap members_of line ∙ sym are.are in
          by_first (stands_at (conditional_places has) place) (has_place old place) (ap (λ ms. stands_at (conditional_places ms) place) (sym same) ∙ there.conditional)
          )
      | inr before ↦ by_second (stands_at (conditional_places has) place) (has_place old place) before
    ]),
  )
