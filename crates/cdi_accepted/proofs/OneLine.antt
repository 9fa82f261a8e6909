-- The line of a class, and what a class has of it, are one.
use Rattle.std.proofs.Common.{◌≡◌, ◌∙◌, ℕ, List, [], ◌∷◌, ◌++◌, Some, None, refl, sym, ap, subst}
use Rattle.std.specs.List.{filter_map}
use Rattle.cdi_deployment.specs.declared.deployment.Class.{Class}
use Rattle.cdi_deployment.specs.declared.deployment.Member.{Member}
use Rattle.cdi_types.specs.Lineage.{IsLineage}
use Rattle.cdi_types.specs.declared.declaration.TypeDeclaration.{TypeDeclaration}
use Rattle.cdi_types.specs.Line.{IsLineOf, class_named}
use Rattle.cdi_types.specs.Members.{members_of}
use Rattle.cdi_bean_check.specs.Inherited.{AreMembersOf}

pub neither : {X : Type 0} {x : X} → None ≡ Some x → ⊥
neither e = cc

module _ {types : List TypeDeclaration} where
  pub one_lineage : {name : ℕ} {these those : List ℕ} → IsLineage types name these → IsLineage types name those → these ≡ those
  one_lineage IsLineage.above_all IsLineage.above_all = refl
  one_lineage IsLineage.above_all (IsLineage.top n e) = absurd (n refl)
  one_lineage IsLineage.above_all (IsLineage.next n e h) = absurd (n refl)
  one_lineage (IsLineage.top n e) IsLineage.above_all = absurd (n refl)
  one_lineage (IsLineage.top n e) (IsLineage.top m f) = refl
  one_lineage (IsLineage.top n e) (IsLineage.next m f k) = absurd (neither (sym e ∙ f))
  one_lineage (IsLineage.next n e h) IsLineage.above_all = absurd (n refl)
  one_lineage (IsLineage.next n e h) (IsLineage.top m f) = absurd (neither (sym f ∙ e))
  one_lineage (IsLineage.next {a = a} {b = b} {names = names} n e h) (IsLineage.next {b = c} {names = others} m f k) =
      let found : Some c ≡ Some b = sym f ∙ e in
      let same : c ≡ b = cc in
      let moved : IsLineage types b others = subst (λ d. IsLineage types d others) same k in
      ap (λ l. l ++ a ∷ []) (one_lineage h moved)

  pub one_line : (classes : List Class) (name : ℕ) (line other : List Class) → IsLineOf types classes name line → IsLineOf types classes name other → line ≡ other
  one_line classes name line other a b = a.named ∙ ap (filter_map (class_named classes)) (one_lineage a.lineage b.lineage) ∙ sym b.named

  pub one_membership : (classes : List Class) (bean : Class) (these those : List (Class × Member)) → AreMembersOf classes types bean these → AreMembersOf classes types bean those → these ≡ those
  one_membership classes bean these those a b = a.are ∙ ap members_of (one_line classes bean.name a.line b.line a.is_line b.is_line) ∙ sym b.are
