-- The problems of each kind, one after the other, are all.
use Rattle.std.proofs.Common.{◌≡◌, ◌∙◌, ◌++◌, ◌∷◌, [], List, Bool, true, false, None, refl, ap, subst}
use Rattle.std.specs.Bool.{MatchBool}
use Rattle.cdi_deployment.specs.declared.deployment.Class.{Class}
use Rattle.cdi_deployment.specs.declared.deployment.Deployment.{Deployment}
use Rattle.cdi_problems.specs.Elements.{Element, elements_of}
use Rattle.cdi_problems.specs.Words.{problems_at}
use Rattle.cdi_problems.specs.declared.problem.Problem.{Problem}
use Rattle.cdi_problems.specs.declared.problem.ProblemKind.{ProblemKind}
use Rattle.cdi_problems.specs.declared.problem.ProblemKind.TheVariants as kinds
use Rattle.cdi_quals.specs.declared.types.QualifierType.{QualifierType}
use Rattle.cdi_types.specs.Declarations.{declarations_of}
use Rattle.cdi_types.specs.declared.declaration.TypeDeclaration.{TypeDeclaration}
use Rattle.cdi_bean_check.specs.BeanTypes.{HasTypedNotAType, HasSpecializedTypeLost}
use Rattle.cdi_bean_check.specs.BindingLists.{HasTwoBindingsOfOneType}
use Rattle.cdi_bean_rules.specs.Disposers.{IsUnmatchedDisposer, HasTwoDisposers}
use Rattle.cdi_bean_rules.specs.Limits.{HasTooMany}
use Rattle.cdi_bean_check.specs.ManagedBeans.{bean_names, IsAbstractBean, SpecializesNothing}
use Rattle.cdi_bean_rules.specs.Observers.{IsConditionalDependent}
use Rattle.cdi_bean_check.specs.Repeated.{RepeatsSuperclass}
use Rattle.cdi_bean_rules.specs.Tiers.{AddsProblems, AddsExcess, AreTooMany, AreBeanProblems}

on_true : (b : Bool) (P Q : Type 0) → b ≡ true → MatchBool b P Q → P
on_true true P Q e p = p
on_true false P Q e p = absurd cc

on_false : (b : Bool) (P Q : Type 0) → b ≡ false → MatchBool b P Q → Q
on_false true P Q e p = absurd cc
on_false false P Q e p = p

module _ (d : Deployment) (types : List TypeDeclaration) (declared : types ≡ declarations_of d) where
  Many : List TypeDeclaration → Type 0
  Many ts = HasTooMany d.classes ts

  pub excess_one : (b : Bool) → b ≡ true → MatchBool b (HasTooMany d.classes types) (HasTooMany d.classes types → ⊥) → (old new : List Problem)
      → new ≡ old ++ (record { kind = kinds.TooMany; place = None }) ∷ [] → AddsExcess d old new
  unfolding Many
  excess_one b e m old new adds = record {
    excess = (record { kind = kinds.TooMany; place = None }) ∷ [];
    are = AreTooMany.too_many (subst Many declared (on_true b (HasTooMany d.classes types) (HasTooMany d.classes types → ⊥) e m));
    adds = adds;
  }

  nothing : (ps : List Problem) → ps ≡ ps ++ []
  nothing [] = refl
  nothing (p ∷ ps) = ap (λ qs. p ∷ qs) (nothing ps)

  pub excess_none : (b : Bool) → b ≡ false → MatchBool b (HasTooMany d.classes types) (HasTooMany d.classes types → ⊥) → (old : List Problem) → AddsExcess d old old
  excess_none b e m old =
      let P : List TypeDeclaration → Type 0 = λ ts. HasTooMany d.classes ts → ⊥ in
      record {
        excess = [];
        are = AreTooMany.few (subst P declared (on_false b (HasTooMany d.classes types) (HasTooMany d.classes types → ⊥) e m));
        adds = nothing old;
      }

  module _ (elements : List Element) (all : elements ≡ elements_of d) where
    moved : (P : List TypeDeclaration → Element → Type 0) (kind : ProblemKind) (old new : List Problem)
        → AddsProblems (P types) elements kind old new → AddsProblems (P (declarations_of d)) (elements_of d) kind old new
    moved P kind old new a =
        let Q : List TypeDeclaration → Type 0 = λ ts. AddsProblems (P ts) elements kind old new in
        let R : List Element → Type 0 = λ es. AddsProblems (P (declarations_of d)) es kind old new in
        subst R all (subst Q declared a)

    pub all_problems : (qualifiers : List QualifierType) (p0 p1 p2 p3 p4 p5 p6 p7 p8 p9 p10 : List Problem) → p0 ≡ []
        → AddsProblems (RepeatsSuperclass d.classes types) elements kinds.DuplicateName p0 p1
        → AddsProblems IsAbstractBean elements kinds.AbstractBean p1 p2
        → AddsProblems (HasTypedNotAType types) elements kinds.TypedNotAType p2 p3
        → AddsProblems (SpecializesNothing (bean_names d.classes)) elements kinds.SpecializesNothing p3 p4
        → AddsProblems (HasSpecializedTypeLost d.classes types) elements kinds.SpecializedTypeLost p4 p5
        → AddsProblems (IsUnmatchedDisposer types qualifiers) elements kinds.UnmatchedDisposer p5 p6
        → AddsProblems (HasTwoDisposers types qualifiers) elements kinds.TwoDisposers p6 p7
        → AddsProblems (IsConditionalDependent d.classes types) elements kinds.ConditionalDependent p7 p8
        → AddsProblems HasTwoBindingsOfOneType elements kinds.TwoBindingsOfOneType p8 p9
        → AddsExcess d p9 p10 → AreBeanProblems d qualifiers p10
    all_problems qualifiers p0 p1 p2 p3 p4 p5 p6 p7 p8 p9 p10 none a1 a2 a3 a4 a5 a6 a7 a8 a9 a10 =
        let b1 = moved (RepeatsSuperclass d.classes) kinds.DuplicateName p0 p1 a1 in
        let b2 = moved (λ ts. IsAbstractBean) kinds.AbstractBean p1 p2 a2 in
        let b3 = moved HasTypedNotAType kinds.TypedNotAType p2 p3 a3 in
        let b4 = moved (λ ts. SpecializesNothing (bean_names d.classes)) kinds.SpecializesNothing p3 p4 a4 in
        let b5 = moved (HasSpecializedTypeLost d.classes) kinds.SpecializedTypeLost p4 p5 a5 in
        let b6 = moved (λ ts. IsUnmatchedDisposer ts qualifiers) kinds.UnmatchedDisposer p5 p6 a6 in
        let b7 = moved (λ ts. HasTwoDisposers ts qualifiers) kinds.TwoDisposers p6 p7 a7 in
        let b8 = moved (IsConditionalDependent d.classes) kinds.ConditionalDependent p7 p8 a8 in
        let b9 = moved (λ ts. HasTwoBindingsOfOneType) kinds.TwoBindingsOfOneType p8 p9 a9 in
        record {
          repeated = b1.places;
          are_repeated = b1.are;
          abstract_beans = b2.places;
          are_abstract = b2.are;
          typed = b3.places;
          are_typed = b3.are;
          specializing = b4.places;
          are_specializing = b4.are;
          losing = b5.places;
          are_losing = b5.are;
          unmatched = b6.places;
          are_unmatched = b6.are;
          twice_disposed = b7.places;
          are_twice_disposed = b7.are;
          conditional = b8.places;
          are_conditional = b8.are;
          twice_bound = b9.places;
          are_twice_bound = b9.are;
          excess = a10.excess;
          are_excess = a10.are;
          are =
              a10.adds
              ∙ ap (λ p. p ++ a10.excess) (b9.adds
              ∙ ap (λ p. p ++ problems_at kinds.TwoBindingsOfOneType b9.places) (b8.adds
              ∙ ap (λ p. p ++ problems_at kinds.ConditionalDependent b8.places) (b7.adds
              ∙ ap (λ p. p ++ problems_at kinds.TwoDisposers b7.places) (b6.adds
              ∙ ap (λ p. p ++ problems_at kinds.UnmatchedDisposer b6.places) (b5.adds
              ∙ ap (λ p. p ++ problems_at kinds.SpecializedTypeLost b5.places) (b4.adds
              ∙ ap (λ p. p ++ problems_at kinds.SpecializesNothing b4.places) (b3.adds
              ∙ ap (λ p. p ++ problems_at kinds.TypedNotAType b3.places) (b2.adds
              ∙ ap (λ p. p ++ problems_at kinds.AbstractBean b2.places) (b1.adds
              ∙ ap (λ p. p ++ problems_at kinds.DuplicateName b1.places) none)))))))));
        }
