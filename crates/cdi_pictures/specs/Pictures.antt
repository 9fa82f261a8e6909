-- The picture of a deployment: a graph in Graphviz's language, each statement on a line.
use Rattle.std.specs.Prelude.{ℕ, List, [], ◌++◌, codes, Option, Some, None}
use Rattle.cdi_pictures.specs.Beans.{beans_text}
use Rattle.cdi_pictures.specs.Events.{observers_text}
use Rattle.cdi_pictures.specs.Interceptors.{interceptors_text}
use Rattle.cdi_pictures.specs.Points.{Drawing, points_text}
use Rattle.cdi_pictures.specs.Problems.{problems_text}
use Rattle.cdi_pictures.specs.Producers.{producers_text}
use Rattle.cdi_pictures.specs.Subjects.{Pictured}
use Rattle.cdi_problems.specs.Elements.{Element, elements_of}
use Rattle.cdi_problems.specs.declared.problem.Problem.{Problem}
use Rattle.cdi_resolve.specs.Filters.{enabled_of}
use Rattle.cdi_resolve.specs.declared.bean_tables.BeanTables.{BeanTables}

-- what has a line of its own is solid; what is only the end of an edge is dashed and gray
abbrev pub head : List ℕ
head =
    codes "digraph \"cdi\" {\n  rankdir=LR;\n  node [shape=box, style=dashed, color=gray];\n"

abbrev pub drawing : List (List ℕ) → BeanTables → List Problem → Drawing
drawing names t problems = record { names = names; tables = t; problems = problems }

-- the enabled beans, the points, the interceptors
abbrev pub tables_text : List (List ℕ) → List Problem → List Element → BeanTables → List ℕ
tables_text names problems elements t =
    beans_text names (enabled_of t.resolver)
    ++ (points_text (drawing names t problems) elements
    ++ interceptors_text names t.chains.interceptors)

-- what the tables show, if there are any
abbrev pub resolved_text : List (List ℕ) → List Problem → List Element → Option BeanTables → List ℕ
resolved_text names problems elements None = []
resolved_text names problems elements (Some t) = tables_text names problems elements t

abbrev pub picture_with : List Element → Pictured → List ℕ
picture_with elements s =
    head ++ (resolved_text s.deployment.names s.problems elements s.tables
    ++ (producers_text s.deployment.names elements
    ++ (observers_text s.deployment.names elements
    ++ (problems_text s.deployment.names s.problems ++ codes "}\n"))))

abbrev pub picture : Pictured → List ℕ
picture s = picture_with (elements_of s.deployment) s
