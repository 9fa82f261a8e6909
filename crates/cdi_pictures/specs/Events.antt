-- The observers of a picture, by the events that they hear.
use Rattle.std.specs.Prelude.{ℕ, List, [], ◌++◌, codes}
use Rattle.std.specs.List.{flat_map}
use Rattle.cdi_deployment.specs.declared.deployment.Class.{Class}
use Rattle.cdi_deployment.specs.declared.deployment.Member.{Member}
use Rattle.cdi_deployment.specs.declared.deployment.Member.TheVariants as members
use Rattle.cdi_deployment.specs.declared.deployment.Observer.{Observer}
use Rattle.cdi_pictures.specs.Edges.{edge_line}
use Rattle.cdi_pictures.specs.declared.edge.Look.TheVariants as looks
use Rattle.cdi_problems.specs.Elements.{Element}
use Rattle.cdi_problems.specs.Places.{name_text}

-- the node of an event's type, which may stand several times
abbrev pub event_line : List ℕ → List ℕ
event_line type =
    codes "  \"event " ++ (type ++ (codes "\" [label=\"" ++ (type
    ++ codes "\", shape=ellipse, style=solid, color=black];\n")))

-- from the event to the class that declares the observer
abbrev pub hearing_line : List (List ℕ) → Class → Observer → List ℕ
hearing_line names c o =
    edge_line (codes "event " ++ name_text names o.ty) (name_text names c.name)
    (name_text names o.name) looks.Plain

abbrev pub member_text : List (List ℕ) → Class → Member → List ℕ
member_text names c (members.Observer o) =
    event_line (name_text names o.ty) ++ hearing_line names c o
member_text names c _ = []

abbrev pub observer_text : List (List ℕ) → Element → List ℕ
observer_text names (Element.AMember i c m) = member_text names c m
observer_text names _ = []

abbrev pub observers_text : List (List ℕ) → List Element → List ℕ
observers_text names elements = flat_map (observer_text names) elements
