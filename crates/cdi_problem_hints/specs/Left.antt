-- The beans that are left for the ambiguous points at the place of a problem.
use Rattle.std.specs.Prelude.{List, [], ◌∷◌, Option, Some, None, if◌then◌else◌}
use Rattle.std.specs.List.{flat_map}
use Rattle.cdi_base.specs.declared.place.Place.{Place}
use Rattle.cdi_bean_check.specs.Qualifiers.{full_uses}
use Rattle.cdi_candidates.specs.Candidates.{candidates}
use Rattle.cdi_deployment.specs.declared.deployment.Deployment.{Deployment}
use Rattle.cdi_deployment.specs.declared.deployment.Point.{Point}
use Rattle.cdi_problem_hints.specs.Asked.{is_at, points_of}
use Rattle.cdi_problem_hints.specs.Specializers.{specializers_at}
use Rattle.cdi_problem_hints.specs.Subjects.{Subject}
use Rattle.cdi_problems.specs.Elements.{Element, elements_of}
use Rattle.cdi_problems.specs.declared.problem.Problem.{Problem}
use Rattle.cdi_problems.specs.declared.problem.ProblemKind.{ProblemKind}
use Rattle.cdi_problems.specs.declared.problem.ProblemKind.TheVariants as kinds
use Rattle.cdi_resolve.specs.Filters.{enabled_of}
use Rattle.cdi_resolve.specs.declared.bean_tables.BeanTables.{BeanTables}

-- the places of the beans that are left for what a point asks for
abbrev pub left_for : BeanTables → Point → List Place
left_for t p =
    candidates p.ty (full_uses t.declared.qualifiers p.quals) (enabled_of t.resolver)

-- some places, if they are several
abbrev pub several : List Place → List Place
several [] = []
several (a ∷ []) = []
several (a ∷ b ∷ places) = a ∷ b ∷ places

-- for each of these points, if several are left
abbrev pub several_left : BeanTables → List Point → List Place
several_left t points = flat_map (λ p. several (left_for t p)) points

-- for the points of an element
abbrev pub left_in : BeanTables → Element → List Place
left_in t e = several_left t (points_of e)

-- for those of an element, if it stands at the place
abbrev pub left_at : BeanTables → Option Place → Element → List Place
left_at t place e = if is_at place e then left_in t e else []

-- without tables none
abbrev pub places_left : Deployment → Option BeanTables → Option Place → List Place
places_left d None place = []
places_left d (Some t) place = flat_map (left_at t place) (elements_of d)

abbrev pub left_of : Subject → ProblemKind → Option Place → List Place
left_of s kinds.Ambiguous place = places_left s.deployment s.tables place
left_of s kinds.InconsistentSpecialization place = specializers_at s.deployment s.tables place
left_of s _ place = []

-- the places of the beans that are left for each ambiguous point of the elements at the place of a problem, in order, or of those that
-- specialize the bean there; none of other problems
abbrev pub problem_candidates : Subject → Problem → List Place
problem_candidates s p = left_of s p.kind p.place
