-- The hint for a problem.
use Rattle.std.specs.Prelude.{ℕ, List, [], ◌++◌, codes, Option, None, if◌then◌else◌}
use Rattle.std.specs.List.{flat_map}
use Rattle.cdi_base.specs.declared.place.Place.{Place}
use Rattle.cdi_cycle_hints.specs.Hierarchy.{hierarchy_text}
use Rattle.cdi_deployment.specs.declared.deployment.Deployment.{Deployment}
use Rattle.cdi_name_uses.specs.Unknown.{unknown_names}
use Rattle.cdi_problem_hints.specs.Asked.{is_at}
use Rattle.cdi_problem_hints.specs.Bodies.{unknown_bodies_text}
use Rattle.cdi_problem_hints.specs.Cycle.{dependent_cycle_text}
use Rattle.cdi_problem_hints.specs.Near.{unsatisfied_in}
use Rattle.cdi_problem_hints.specs.Points.{points_text}
use Rattle.cdi_problem_hints.specs.Rule.{rule_text}
use Rattle.cdi_problem_hints.specs.Scripts.{scripts_text}
use Rattle.cdi_problem_hints.specs.Sentences.{sentences}
use Rattle.cdi_problem_hints.specs.Specializers.{specializers_text}
use Rattle.cdi_problem_hints.specs.Subjects.{Subject}
use Rattle.cdi_problems.specs.Elements.{Element, elements_of}
use Rattle.cdi_problems.specs.Words.{problem_text}
use Rattle.cdi_problems.specs.declared.problem.Problem.{Problem}
use Rattle.cdi_problems.specs.declared.problem.ProblemKind.{ProblemKind}
use Rattle.cdi_problems.specs.declared.problem.ProblemKind.TheVariants as kinds
use Rattle.cdi_resolve.specs.declared.bean_tables.BeanTables.{BeanTables}
use Rattle.cdi_name_uses.specs.declared.step_name.ScriptNames.{ScriptNames}

-- of an unknown name what it has to be and what was probably meant, of a type that is its own supertype a cycle, and of a point what
-- it asks for, and if it is ambiguous what is left, and if it isn't satisfied what is near
abbrev pub details : Deployment → Option BeanTables → ProblemKind → Element → List ℕ
details d tables kinds.UnknownName e = sentences d e (unknown_names d e)
details d tables kinds.CyclicHierarchy e = hierarchy_text d e
details d tables kinds.Unsatisfied e = unsatisfied_in d tables e
details d tables kinds.Ambiguous e = points_text d.names tables e
details d tables kinds.Unproxyable e = points_text d.names None e
details d tables _ e = []

abbrev pub details_at : Deployment → Option BeanTables → Problem → Element → List ℕ
details_at d tables p e = if is_at p.place e then details d tables p.kind e else []

-- of a body that isn't a script, the name; of a script that names something that isn't there, which step does
unfoldable pub script_details : Deployment → List ScriptNames → Option Place → ProblemKind → List ℕ
script_details d scripts place kinds.UnknownBody = unknown_bodies_text d scripts place
script_details d scripts place kinds.BodyOutsideShape = scripts_text d scripts place
script_details d scripts place _ = []

-- of a bean that two enabled ones specialize, these; of a dependent bean that needs itself, a cycle
unfoldable pub bean_details : Deployment → Option BeanTables → Option Place → ProblemKind → List ℕ
bean_details d tables place kinds.InconsistentSpecialization = specializers_text d tables place
bean_details d tables place kinds.DependentCycle = dependent_cycle_text d tables place
bean_details d tables place _ = []

-- the rule that a problem breaks, and what is told of the elements, of the scripts and of the bean at its place
abbrev pub problem_message : Subject → Problem → List ℕ
problem_message s p =
    rule_text p.kind
    ++ (flat_map (details_at s.deployment s.tables p) (elements_of s.deployment)
    ++ (script_details s.deployment s.scripts p.place p.kind
    ++ bean_details s.deployment s.tables p.place p.kind))

-- the same behind the problem as it is printed
abbrev pub problem_hint : Subject → Problem → List ℕ
problem_hint s p = problem_text s.deployment.names p ++ (codes ": " ++ problem_message s p)
