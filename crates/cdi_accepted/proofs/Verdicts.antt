-- The problems of a deployment with its bodies are one list.
use Rattle.std.proofs.Common.{◌≡◌, ◌∙◌, ℕ, Bool, List, [], ◌++◌, Option, refl, sym, subst}
use Rattle.cdi_beans.specs.declared.bean.BeanList.{BeanList}
use Rattle.cdi_bodies.specs.declared.shape.Shape.{Shape}
use Rattle.cdi_check.specs.Late.{AreBodyProblems, AreEnabledProblems, AreLateProblems, ArePointProblems, AreProblemsIn, setting_of}
use Rattle.cdi_check.specs.Problems.{AreProblemsOf}
use Rattle.cdi_check.specs.Tables.{setting_by}
use Rattle.cdi_live.specs.OwnPoints.{Inventory}
use Rattle.cdi_deployment.specs.declared.deployment.Deployment.{Deployment}
use Rattle.cdi_enable.specs.Enablement.{Enablement, AreFlags, enablement_of}
use Rattle.cdi_problems.specs.Words.{problems_at}
use Rattle.cdi_problems.specs.declared.problem.Problem.{Problem}
use Rattle.cdi_problems.specs.declared.problem.ProblemKind.TheVariants as kinds
use Rattle.cdi_quals.specs.declared.types.QualifierType.{QualifierType}
use Rattle.cdi_resolve.specs.BeanTables.{AreTablesOf}
use Rattle.cdi_resolve.specs.declared.bean_tables.BeanTables.{BeanTables}
use Rattle.cdi_accepted.proofs.BeanLists.{one_list}
use Rattle.cdi_accepted.proofs.Findings.{no_early, one_early, one_place_list}
use Rattle.cdi_accepted.proofs.Tables.{one_flags}
use Rattle.cdi_accepted.proofs.Types.{one_qualifier_list, one_type_list}

module _ (d : Deployment) (shape_of : ℕ → Option Shape) where
  one_body_list : (s : Inventory) (these those : List Problem) → AreBodyProblems d shape_of s these → AreBodyProblems d shape_of s those → these ≡ those
  one_body_list s these those a b =
      let unknown : a.unknown ≡ b.unknown = one_place_list _ _ _ a.unknown b.unknown a.are_unknown b.are_unknown in
      let outside : a.outside ≡ b.outside = one_place_list _ _ _ a.outside b.outside a.are_outside b.are_outside in
      let proceeding : a.proceeding ≡ b.proceeding = one_place_list _ _ _ a.proceeding b.proceeding a.are_proceeding b.are_proceeding in
      let checked : a.checked ≡ b.checked = one_place_list _ _ _ a.checked b.checked a.are_checked b.are_checked in
      a.are
      ∙ (
      λ i.
      problems_at kinds.UnknownBody (unknown i) ++ problems_at kinds.BodyOutsideShape (outside i)
      ++ problems_at kinds.ProceedNotAllowed (proceeding i) ++ problems_at kinds.CheckedLifecycle (checked i)
      )
      ∙ sym b.are

  one_point_list : (s : Inventory) (these those : List Problem) → ArePointProblems d s these → ArePointProblems d s those → these ≡ those
  one_point_list s these those a b =
      let unsatisfied : a.unsatisfied ≡ b.unsatisfied = one_place_list _ _ _ a.unsatisfied b.unsatisfied a.are_unsatisfied b.are_unsatisfied in
      let ambiguous : a.ambiguous ≡ b.ambiguous = one_place_list _ _ _ a.ambiguous b.ambiguous a.are_ambiguous b.are_ambiguous in
      let unproxyable : a.unproxyable ≡ b.unproxyable = one_place_list _ _ _ a.unproxyable b.unproxyable a.are_unproxyable b.are_unproxyable in
      a.are
      ∙ (
      λ i.
      problems_at kinds.Unsatisfied (unsatisfied i) ++ problems_at kinds.Ambiguous (ambiguous i) ++ problems_at kinds.Unproxyable (unproxyable i)
      )
      ∙ sym b.are

  one_enabled_list : (e : Enablement) (s : Inventory) (these those : List Problem) → AreEnabledProblems d e s these → AreEnabledProblems d e s those → these ≡ those
  one_enabled_list e s these those a b =
      let inconsistent : a.inconsistent ≡ b.inconsistent =
      one_place_list _ _ _ a.inconsistent b.inconsistent a.are_inconsistent b.are_inconsistent in
      let cyclic : a.cyclic ≡ b.cyclic = one_place_list _ _ _ a.cyclic b.cyclic a.are_cyclic b.are_cyclic in
      let intercepted : a.intercepted ≡ b.intercepted = one_place_list _ _ _ a.intercepted b.intercepted a.are_intercepted b.are_intercepted in
      a.are
      ∙ (
      λ i.
      problems_at kinds.InconsistentSpecialization (inconsistent i) ++ problems_at kinds.DependentCycle (cyclic i)
      ++ problems_at kinds.FinalIntercepted (intercepted i)
      )
      ∙ sym b.are

  one_in : (e : Enablement) (s : Inventory) (these those : List Problem) → AreProblemsIn d shape_of e s these → AreProblemsIn d shape_of e s those → these ≡ those
  one_in e s these those a b =
      let bodies : a.of_bodies ≡ b.of_bodies = one_body_list s a.of_bodies b.of_bodies a.are_of_bodies b.are_of_bodies in
      let points : a.of_points ≡ b.of_points = one_point_list s a.of_points b.of_points a.are_of_points b.are_of_points in
      let enabled : a.of_enabled ≡ b.of_enabled = one_enabled_list e s a.of_enabled b.of_enabled a.are_of_enabled b.are_of_enabled in
      a.are ∙ (λ i. bodies i ++ points i ++ enabled i) ∙ sym b.are

  one_late : (these those : List Problem) → AreLateProblems d shape_of these → AreLateProblems d shape_of those → these ≡ those
  one_late these those a b =
      let list : b.list ≡ a.list = one_list d b.list a.list b.made a.made in
      let qualifiers : b.qualifiers ≡ a.qualifiers = one_qualifier_list d b.qualifiers a.qualifiers b.are_qualifiers a.are_qualifiers in
      let bindings : b.bindings ≡ a.bindings = one_type_list d.names b.are_bindings a.are_bindings in
      let flags : b.flags ≡ a.flags =
      one_flags (enablement_of a.list) b.flags a.flags (subst (λ l. AreFlags (enablement_of l) b.flags) list b.are_flags) a.are_flags in
      let P : BeanList → List Bool → List QualifierType → List QualifierType → Type 0 =
      λ l fs qs bs. AreProblemsIn d shape_of (enablement_of l) (setting_of d l fs qs bs) those in
      let in_list : P a.list b.flags b.qualifiers b.bindings = subst (λ l. P l b.flags b.qualifiers b.bindings) list b.are in
      let in_flags : P a.list a.flags b.qualifiers b.bindings = subst (λ fs. P a.list fs b.qualifiers b.bindings) flags in_list in
      let in_qualifiers : P a.list a.flags a.qualifiers b.bindings = subst (λ qs. P a.list a.flags qs b.bindings) qualifiers in_flags in
      let in_all : P a.list a.flags a.qualifiers a.bindings = subst (λ bs. P a.list a.flags a.qualifiers bs) bindings in_qualifiers in
      one_in (enablement_of a.list) (setting_of d a.list a.flags a.qualifiers a.bindings) these those a.are in_all

  pub one_verdict : (these those : List Problem) → AreProblemsOf d shape_of these → AreProblemsOf d shape_of those → these ≡ those
  one_verdict these those (AreProblemsOf.early h) (AreProblemsOf.early k) = one_early d these those h k
  one_verdict these those (AreProblemsOf.early h) (AreProblemsOf.late k) = absurd (no_early d k.list these k.made h)
  one_verdict these those (AreProblemsOf.late h) (AreProblemsOf.early k) = absurd (no_early d h.list those h.made k)
  one_verdict these those (AreProblemsOf.late h) (AreProblemsOf.late k) = one_late these those h k

  -- where there is none, the tables of the deployment show none
  pub none_by_tables : (t : BeanTables) → AreTablesOf d t → AreProblemsOf d shape_of [] → AreProblemsIn d shape_of t.enabled (setting_by d t) []
  none_by_tables t tables (AreProblemsOf.early h) = absurd (h.some refl)
  none_by_tables t tables (AreProblemsOf.late h) =
      let list : h.list ≡ tables.list = one_list d h.list tables.list h.made tables.made in
      let qualifiers : h.qualifiers ≡ t.declared.qualifiers =
      one_qualifier_list d h.qualifiers t.declared.qualifiers h.are_qualifiers tables.are.declared.qualifiers in
      let bindings : h.bindings ≡ t.declared.bindings = one_type_list d.names h.are_bindings tables.are.declared.bindings in
      let flags : h.flags ≡ t.resolver.flags =
      one_flags (enablement_of tables.list) h.flags t.resolver.flags (subst (λ l. AreFlags (enablement_of l) h.flags) list h.are_flags) tables.are.flags in
      let P : BeanList → List Bool → List QualifierType → List QualifierType → Type 0 =
      λ l fs qs bs. AreProblemsIn d shape_of (enablement_of l) (setting_of d l fs qs bs) [] in
      let in_list : P tables.list h.flags h.qualifiers h.bindings = subst (λ l. P l h.flags h.qualifiers h.bindings) list h.are in
      let in_flags : P tables.list t.resolver.flags h.qualifiers h.bindings = subst (λ fs. P tables.list fs h.qualifiers h.bindings) flags in_list in
      let in_qualifiers : P tables.list t.resolver.flags t.declared.qualifiers h.bindings =
      subst (λ qs. P tables.list t.resolver.flags qs h.bindings) qualifiers in_flags in
      let in_all : P tables.list t.resolver.flags t.declared.qualifiers t.declared.bindings =
      subst (λ bs. P tables.list t.resolver.flags t.declared.qualifiers bs) bindings in_qualifiers in
      let Q : BeanTables → Type 0 = λ s. AreProblemsIn d shape_of s.enabled (setting_by d s) [] in
      subst Q (sym tables.are.are) in_all
