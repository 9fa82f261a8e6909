-- What the injection points of an element ask for, in words.
use Rattle.std.specs.Prelude.{ℕ, List, [], ◌++◌, codes, Option, Some, None}
use Rattle.std.specs.List.{flat_map}
use Rattle.cdi_base.specs.declared.uses.Use.{Use}
use Rattle.cdi_deployment.specs.declared.deployment.Point.{Point}
use Rattle.cdi_problem_hints.specs.Asked.{points_of}
use Rattle.cdi_problem_hints.specs.Candidates.{candidates_text}
use Rattle.cdi_problem_hints.specs.Left.{left_for}
use Rattle.cdi_problems.specs.Elements.{Element}
use Rattle.cdi_problems.specs.Places.{name_text}
use Rattle.cdi_resolve.specs.declared.bean_tables.BeanTables.{BeanTables}

abbrev pub quals_text : List (List ℕ) → List Use → List ℕ
quals_text names quals = flat_map (λ u. codes " @" ++ name_text names u.name) quals

-- a type with qualifiers
unfoldable pub point_text : List (List ℕ) → ℕ → List Use → List ℕ
point_text names ty quals =
    codes "; it asks for " ++ (name_text names ty ++ quals_text names quals)

-- the beans that are left for what a point asks for, by the tables of the deployment, if there are any
abbrev pub left_text : List (List ℕ) → Option BeanTables → Point → List ℕ
left_text names None p = []
left_text names (Some t) p = candidates_text names (left_for t p)

abbrev pub asked_text : List (List ℕ) → Option BeanTables → Point → List ℕ
asked_text names tables p = point_text names p.ty p.quals ++ left_text names tables p

abbrev pub asked_texts : List (List ℕ) → Option BeanTables → List Point → List ℕ
asked_texts names tables points = flat_map (asked_text names tables) points

abbrev pub points_text : List (List ℕ) → Option BeanTables → Element → List ℕ
points_text names tables e = asked_texts names tables (points_of e)
