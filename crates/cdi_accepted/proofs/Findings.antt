-- Where problems hold, and the early problems of a deployment, are one.
use Rattle.std.proofs.Common.{◌≡◌, ◌∙◌, List, [], ◌++◌, map, refl, sym, ap, subst}
use Rattle.cdi_base.specs.declared.place.Place.{Place}
use Rattle.cdi_bean_rules.specs.Tiers.{AreBeanProblems, AreTooMany}
use Rattle.cdi_beans.specs.Problems.{AreAllProblemsOf, AreEarlyProblemsOf, IsMadeOf}
use Rattle.cdi_beans.specs.declared.bean.BeanList.{BeanList}
use Rattle.cdi_deployment.specs.declared.deployment.Deployment.{Deployment}
use Rattle.cdi_name_check.specs.NameProblems.{AreNameProblems}
use Rattle.cdi_problems.specs.Findings.{ArePlacesWhere}
use Rattle.cdi_problems.specs.Places.{once}
use Rattle.cdi_problems.specs.Words.{problems_at}
use Rattle.cdi_problems.specs.declared.problem.Problem.{Problem}
use Rattle.cdi_problems.specs.declared.problem.ProblemKind.TheVariants as kinds
use Rattle.cdi_quals.specs.declared.types.QualifierType.{QualifierType}
use Rattle.cdi_accepted.proofs.DeterminedLists.{one_listed}
use Rattle.cdi_accepted.proofs.Types.{one_qualifier_list}

pub one_place_list : {X : Type 0} (P : X → Type 0) (place : X → Place) (items : List X) (these those : List Place) → ArePlacesWhere P place items these → ArePlacesWhere P place items those → these ≡ those
one_place_list P place items these those a b = a.are ∙ ap (λ l. once (map place l)) (one_listed a.listed b.listed) ∙ sym b.are

one_name_list : (d : Deployment) (these those : List Problem) → AreNameProblems d these → AreNameProblems d those → these ≡ those
one_name_list d these those a b =
    let duplicate : a.duplicate ≡ b.duplicate = one_place_list _ _ _ a.duplicate b.duplicate a.are_duplicate b.are_duplicate in
    let unknown : a.unknown ≡ b.unknown = one_place_list _ _ _ a.unknown b.unknown a.are_unknown b.are_unknown in
    let cyclic : a.cyclic ≡ b.cyclic = one_place_list _ _ _ a.cyclic b.cyclic a.are_cyclic b.are_cyclic in
    a.are
    ∙ (λ i. problems_at kinds.DuplicateName (duplicate i) ++ problems_at kinds.UnknownName (unknown i) ++ problems_at kinds.CyclicHierarchy (cyclic i))
    ∙ sym b.are

one_excess : (d : Deployment) {these those : List Problem} → AreTooMany d these → AreTooMany d those → these ≡ those
one_excess d (AreTooMany.too_many h) (AreTooMany.too_many k) = refl
one_excess d (AreTooMany.too_many h) (AreTooMany.few n) = absurd (n h)
one_excess d (AreTooMany.few n) (AreTooMany.too_many h) = absurd (n h)
one_excess d (AreTooMany.few n) (AreTooMany.few m) = refl

one_bean_problems : (d : Deployment) (qualifiers : List QualifierType) (these those : List Problem) → AreBeanProblems d qualifiers these → AreBeanProblems d qualifiers those → these ≡ those
one_bean_problems d qualifiers these those a b =
    let repeated : a.repeated ≡ b.repeated = one_place_list _ _ _ a.repeated b.repeated a.are_repeated b.are_repeated in
    let abstract_beans : a.abstract_beans ≡ b.abstract_beans = one_place_list _ _ _ a.abstract_beans b.abstract_beans a.are_abstract b.are_abstract in
    let typed : a.typed ≡ b.typed = one_place_list _ _ _ a.typed b.typed a.are_typed b.are_typed in
    let specializing : a.specializing ≡ b.specializing = one_place_list _ _ _ a.specializing b.specializing a.are_specializing b.are_specializing in
    let losing : a.losing ≡ b.losing = one_place_list _ _ _ a.losing b.losing a.are_losing b.are_losing in
    let unmatched : a.unmatched ≡ b.unmatched = one_place_list _ _ _ a.unmatched b.unmatched a.are_unmatched b.are_unmatched in
    let twice_disposed : a.twice_disposed ≡ b.twice_disposed =
    one_place_list _ _ _ a.twice_disposed b.twice_disposed a.are_twice_disposed b.are_twice_disposed in
    let conditional : a.conditional ≡ b.conditional = one_place_list _ _ _ a.conditional b.conditional a.are_conditional b.are_conditional in
    let twice_bound : a.twice_bound ≡ b.twice_bound = one_place_list _ _ _ a.twice_bound b.twice_bound a.are_twice_bound b.are_twice_bound in
    let excess : a.excess ≡ b.excess = one_excess d a.are_excess b.are_excess in
    a.are
    ∙ (
    λ i.
    problems_at kinds.DuplicateName (repeated i) ++ problems_at kinds.AbstractBean (abstract_beans i) ++ problems_at kinds.TypedNotAType (typed i)
    ++ problems_at kinds.SpecializesNothing (specializing i) ++ problems_at kinds.SpecializedTypeLost (losing i)
    ++ problems_at kinds.UnmatchedDisposer (unmatched i) ++ problems_at kinds.TwoDisposers (twice_disposed i)
    ++ problems_at kinds.ConditionalDependent (conditional i) ++ problems_at kinds.TwoBindingsOfOneType (twice_bound i) ++ excess i
    )
    ∙ sym b.are

-- a deployment with problems of names or beans has one list of these
pub one_early : (d : Deployment) (these those : List Problem) → AreAllProblemsOf d these → AreAllProblemsOf d those → these ≡ those
one_early d these those a b = by a.are b.are
  where
    by : AreEarlyProblemsOf d these → AreEarlyProblemsOf d those → these ≡ those
    by (AreEarlyProblemsOf.of_names h) (AreEarlyProblemsOf.of_names k) = one_name_list d these those h k
    by (AreEarlyProblemsOf.of_names h) (AreEarlyProblemsOf.of_beans q none k) = absurd (a.some (one_name_list d these [] h none))
    by (AreEarlyProblemsOf.of_beans q none h) (AreEarlyProblemsOf.of_names k) = absurd (b.some (one_name_list d those [] k none))
    by (AreEarlyProblemsOf.of_beans {qualifiers = qs} q none h) (AreEarlyProblemsOf.of_beans {qualifiers = rs} r nothing k) =
        let same : rs ≡ qs = one_qualifier_list d rs qs r q in
        one_bean_problems d qs these those h (subst (λ l. AreBeanProblems d l those) same k)

-- and one with a bean list has none
pub no_early : (d : Deployment) (list : BeanList) (problems : List Problem) → IsMadeOf d list → AreAllProblemsOf d problems → ⊥
no_early d list problems made h = by h.are
  where
    by : AreEarlyProblemsOf d problems → ⊥
    by (AreEarlyProblemsOf.of_names k) = h.some (one_name_list d problems [] k made.names_well)
    by (AreEarlyProblemsOf.of_beans {qualifiers = qs} q none k) =
        let same : qs ≡ made.qualifiers = one_qualifier_list d qs made.qualifiers q made.are_qualifiers in
        h.some (one_bean_problems d made.qualifiers problems [] (subst (λ l. AreBeanProblems d l problems) same k) made.beans_well)
