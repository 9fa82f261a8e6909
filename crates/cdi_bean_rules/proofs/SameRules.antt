-- Two sentences that hold of the same elements have the same places.
use Rattle.std.proofs.Common.{List, [], ◌∷◌}
use Rattle.std.specs.Prelude.{◌↔◌}
use Rattle.std.specs.HashSet.{HashSet}
use Rattle.cdi_base.specs.declared.place.Place.{Place}
use Rattle.cdi_deployment.specs.declared.deployment.Class.{Class}
use Rattle.cdi_problems.specs.Elements.{Element}
use Rattle.cdi_problems.specs.declared.problem.Problem.{Problem}
use Rattle.cdi_problems.specs.declared.problem.ProblemKind.{ProblemKind}
use Rattle.cdi_types.specs.ListsThose.{ListsThose}
use Rattle.cdi_types.specs.declared.declaration.TypeDeclaration.{TypeDeclaration}
use Rattle.cdi_bean_check.specs.MemberPlaces.{MemberPlace, HasPlaces}
use Rattle.cdi_bean_rules.specs.Observers.{IsConditionalAt, IsConditionalDependent, IsMemberAt}
use Rattle.cdi_bean_check.specs.Repeated.{IsRepeatedAt, IsPartAt, RepeatsSuperclass}
use Rattle.cdi_bean_rules.specs.Tiers.{AddsProblems}

module _ (P Q : Element → Type 0) (same : (e : Element) → P e ↔ Q e) where
  lists : (es found : List Element) → ListsThose P es found → ListsThose Q es found
  lists [] [] ListsThose.none = ListsThose.none
  lists [] (f ∷ found) l = elim l [ ]
  lists (e ∷ es) [] (ListsThose.skip out rest) = ListsThose.skip (λ q. out ((same e).1 q)) (lists es [] rest)
  lists (e ∷ es) (f ∷ found) (ListsThose.keep p rest) = ListsThose.keep ((same e).0 p) (lists es found rest)
  lists (e ∷ es) (f ∷ found) (ListsThose.skip out rest) = ListsThose.skip (λ q. out ((same e).1 q)) (lists es (f ∷ found) rest)

  pub adds_same : (es : List Element) (kind : ProblemKind) (old new : List Problem) → AddsProblems P es kind old new → AddsProblems Q es kind old new
  adds_same es kind old new a = record {
    places = a.places;
    are = record { those = a.are.those; listed = lists es a.are.those a.are.listed; are = a.are.are };
    adds = a.adds;
  }

nothing : ⊥ ↔ ⊥
nothing = (λ a. a, λ a. a)

module _ {S : Type 0} (classes : List Class) (types : List TypeDeclaration) (set : HashSet MemberPlace S) where
  pub same_repeats : HasPlaces (IsRepeatedAt classes types) set → (e : Element) → IsPartAt set e ↔ RepeatsSuperclass classes types e
  same_repeats has (Element.AField i c f) = has (c.name, f.name)
  same_repeats has (Element.AnInjectedField i c f) = has (c.name, f.name)
  same_repeats has (Element.AMember i c m) = has _
  same_repeats has _ = nothing

  pub same_conditional : HasPlaces (IsConditionalAt classes types) set → (e : Element) → IsMemberAt set e ↔ IsConditionalDependent classes types e
  same_conditional has (Element.AMember i c m) = has _
  same_conditional has _ = nothing
