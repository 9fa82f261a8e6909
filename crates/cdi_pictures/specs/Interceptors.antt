-- The enabled interceptors of a picture, in their order.
use Rattle.std.specs.Prelude.{ℕ, ◌+◌, List, [], ◌∷◌, ◌++◌, codes, decimal, Option, Some, None}
use Rattle.cdi_beans.specs.declared.bean.EnabledInterceptor.{EnabledInterceptor}
use Rattle.cdi_pictures.specs.Edges.{edge_line}
use Rattle.cdi_pictures.specs.declared.edge.Look.TheVariants as looks
use Rattle.cdi_problems.specs.Places.{name_text}

-- a node with the number of an interceptor
abbrev pub node_line : List ℕ → ℕ → List ℕ
node_line name number =
    codes "  \"" ++ (name ++ (codes "\" [label=\"" ++ (decimal number ++ (codes ". " ++ (name
    ++ codes "\", shape=component, style=solid, color=black];\n")))))

-- from the one before, if there is one
abbrev pub then_line : List (List ℕ) → Option ℕ → ℕ → List ℕ
then_line names None name = []
then_line names (Some before) name =
    edge_line (name_text names before) (name_text names name) (codes "then") looks.Dashed

abbrev pub interceptor_text : List (List ℕ) → ℕ → Option ℕ → ℕ → List ℕ
interceptor_text names number before name =
    node_line (name_text names name) number ++ then_line names before name

-- behind so many interceptors, of which this is the last
abbrev pub interceptors_after : List (List ℕ) → ℕ → Option ℕ → List EnabledInterceptor → List ℕ
interceptors_after names count before [] = []
interceptors_after names count before (j ∷ js) =
    interceptor_text names (count + 1) before j.name
    ++ interceptors_after names (count + 1) (Some j.name) js

abbrev pub interceptors_text : List (List ℕ) → List EnabledInterceptor → List ℕ
interceptors_text names interceptors = interceptors_after names 0 None interceptors
