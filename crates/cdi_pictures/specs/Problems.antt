-- The problems of a picture.
use Rattle.std.specs.Prelude.{ℕ, List, [], ◌++◌, codes, Option, Some, None}
use Rattle.std.specs.List.{flat_map}
use Rattle.cdi_base.specs.declared.place.Place.{Place}
use Rattle.cdi_base.specs.declared.place.Place.TheVariants as places
use Rattle.cdi_pictures.specs.Edges.{edge_line}
use Rattle.cdi_pictures.specs.declared.edge.Look.TheVariants as looks
use Rattle.cdi_problems.specs.Places.{name_text}
use Rattle.cdi_problems.specs.Words.{problem_text}
use Rattle.cdi_problems.specs.declared.problem.Problem.{Problem}

-- a note with a problem as it is printed
abbrev pub note_line : List ℕ → List ℕ
note_line problem = codes "  \"" ++ (problem ++ codes "\" [shape=note, style=solid, color=red];\n")

-- the class, the interceptor or the name of a list to which a place belongs
abbrev pub owner_of : Place → ℕ
owner_of (places.Class name) = name
owner_of (places.Member class member) = class
owner_of (places.Constructor class) = class
owner_of (places.Interceptor interceptor method) = interceptor

-- from the note to what has the problem
abbrev pub at_line : List (List ℕ) → List ℕ → Option Place → List ℕ
at_line names problem None = []
at_line names problem (Some place) =
    edge_line problem (name_text names (owner_of place)) (codes "at") looks.Red

abbrev pub noted_text : List (List ℕ) → List ℕ → Option Place → List ℕ
noted_text names problem place = note_line problem ++ at_line names problem place

abbrev pub problems_text : List (List ℕ) → List Problem → List ℕ
problems_text names problems = flat_map (λ p. noted_text names (problem_text names p) p.place) problems
