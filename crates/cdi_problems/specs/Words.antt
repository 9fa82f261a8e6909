-- Problems as they are printed.
use Rattle.std.specs.Prelude.{ℕ, List, [], ◌++◌, map, codes, Option, Some, None}
use Rattle.cdi_base.specs.declared.place.Place.{Place}
use Rattle.cdi_problems.specs.declared.problem.Problem.{Problem}
use Rattle.cdi_problems.specs.declared.problem.ProblemKind.{ProblemKind}
use Rattle.cdi_problems.specs.declared.problem.ProblemKind.TheVariants as kinds
use Rattle.cdi_problems.specs.Places.{place_text}

-- a kind with its number
abbrev pub kind_text : ProblemKind → List ℕ
kind_text kinds.DuplicateName = codes "P1 DuplicateName"
kind_text kinds.UnknownName = codes "P2 UnknownName"
kind_text kinds.CyclicHierarchy = codes "P3 CyclicHierarchy"
kind_text kinds.AbstractBean = codes "P4 AbstractBean"
kind_text kinds.TypedNotAType = codes "P5 TypedNotAType"
kind_text kinds.SpecializesNothing = codes "P6 SpecializesNothing"
kind_text kinds.SpecializedTypeLost = codes "P7 SpecializedTypeLost"
kind_text kinds.UnmatchedDisposer = codes "P8 UnmatchedDisposer"
kind_text kinds.TwoDisposers = codes "P9 TwoDisposers"
kind_text kinds.ConditionalDependent = codes "P10 ConditionalDependent"
kind_text kinds.TwoBindingsOfOneType = codes "P11 TwoBindingsOfOneType"
kind_text kinds.UnknownBody = codes "P12 UnknownBody"
kind_text kinds.BodyOutsideShape = codes "P13 BodyOutsideShape"
kind_text kinds.ProceedNotAllowed = codes "P14 ProceedNotAllowed"
kind_text kinds.CheckedLifecycle = codes "P15 CheckedLifecycle"
kind_text kinds.Unsatisfied = codes "P16 Unsatisfied"
kind_text kinds.Ambiguous = codes "P17 Ambiguous"
kind_text kinds.Unproxyable = codes "P18 Unproxyable"
kind_text kinds.InconsistentSpecialization = codes "P19 InconsistentSpecialization"
kind_text kinds.DependentCycle = codes "P20 DependentCycle"
kind_text kinds.FinalIntercepted = codes "P21 FinalIntercepted"
kind_text kinds.TooMany = codes "P22 TooMany"

abbrev pub at_place_text : List (List ℕ) → Option Place → List ℕ
at_place_text names None = []
at_place_text names (Some place) = codes " " ++ place_text names place

-- a kind and its place, if it has one
abbrev pub problem_text : List (List ℕ) → Problem → List ℕ
problem_text names problem = kind_text problem.kind ++ at_place_text names problem.place

-- the problems of a kind at these places
abbrev pub problems_at : ProblemKind → List Place → List Problem
problems_at kind where_they_stand =
    map (λ place. record { kind = kind; place = Some place }) where_they_stand
