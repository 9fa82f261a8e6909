-- Edges, as Graphviz's language has them. Texts stand in quotes, and nothing in them has to be escaped: a name has ASCII letters,
-- digits, `_`, `.` and `$` alone.
use Rattle.std.specs.Prelude.{ℕ, List, [], ◌++◌, codes}
use Rattle.cdi_pictures.specs.declared.edge.Edge.{Edge}
use Rattle.cdi_pictures.specs.declared.edge.Look.{Look}
use Rattle.cdi_pictures.specs.declared.edge.Look.TheVariants as looks

abbrev pub look_text : Look → List ℕ
look_text looks.Plain = []
look_text looks.Dotted = codes ", style=dotted"
look_text looks.Dashed = codes ", style=dashed"
look_text looks.Red = codes ", color=red"

-- from one node to another, with a label
abbrev pub edge_line : List ℕ → List ℕ → List ℕ → Look → List ℕ
edge_line source target label look =
    codes "  \"" ++ (source ++ (codes "\" -> \"" ++ (target ++ (codes "\" [label=\"" ++ (label
    ++ (codes "\"" ++ (look_text look ++ codes "];\n")))))))

-- the edge that the code borrows
abbrev pub line_of : Edge → List ℕ
line_of e = edge_line e.source.now e.target.now e.label.now e.look
