-- The tables by which the points of a deployment resolve, for what is told of its problems.
use Rattle.std.specs.Prelude.{◌≡◌, Bool, true, false, List, Option, None}
use Rattle.std.specs.List.{list_any}
use Rattle.cdi_candidates.specs.Tables.{AreTables}
use Rattle.cdi_deployment.specs.declared.deployment.Deployment.{Deployment}
use Rattle.cdi_problems.specs.declared.problem.Problem.{Problem}
use Rattle.cdi_problems.specs.declared.problem.ProblemKind.{ProblemKind}
use Rattle.cdi_problems.specs.declared.problem.ProblemKind.TheVariants as kinds
use Rattle.cdi_resolve.specs.declared.bean_tables.BeanTables.{BeanTables}

-- the tables tell something of a problem of a kind
abbrev pub kind_needs_tables : ProblemKind → Bool
kind_needs_tables kinds.Unsatisfied = true
kind_needs_tables kinds.Ambiguous = true
kind_needs_tables kinds.InconsistentSpecialization = true
kind_needs_tables kinds.DependentCycle = true
kind_needs_tables _ = false

abbrev pub needs_tables : Problem → Bool
needs_tables p = kind_needs_tables p.kind

-- it is that dependent beans need each other
abbrev pub is_dependent_cycle_kind : ProblemKind → Bool
is_dependent_cycle_kind kinds.DependentCycle = true
is_dependent_cycle_kind _ = false

abbrev pub is_dependent_cycle : Problem → Bool
is_dependent_cycle p = is_dependent_cycle_kind p.kind

abbrev pub AreTablesIf : Bool → Deployment → Option BeanTables → Type 0
AreTablesIf true d tables = AreTables d tables
AreTablesIf false d tables = tables ≡ None

-- the tables by which the points of a deployment resolve, if one of these problems needs them
abbrev pub AreTablesFor : Deployment → List Problem → Option BeanTables → Type 0
AreTablesFor d problems tables = AreTablesIf (list_any needs_tables problems) d tables
