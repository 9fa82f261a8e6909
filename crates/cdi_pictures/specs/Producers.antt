-- The producers of a picture.
use Rattle.std.specs.Prelude.{ℕ, Bool, true, false, ◌&&◌, List, [], codes, if◌then◌else◌}
use Rattle.std.specs.List.{flat_map}
use Rattle.cdi_base.specs.declared.place.Place.TheVariants as places
use Rattle.cdi_bean_check.specs.ManagedBeans.{is_bean}
use Rattle.cdi_deployment.specs.Member.{member_name}
use Rattle.cdi_deployment.specs.declared.deployment.Class.{Class}
use Rattle.cdi_deployment.specs.declared.deployment.Member.{Member}
use Rattle.cdi_deployment.specs.declared.deployment.Member.TheVariants as members
use Rattle.cdi_pictures.specs.Edges.{edge_line}
use Rattle.cdi_pictures.specs.declared.edge.Look.TheVariants as looks
use Rattle.cdi_problems.specs.Elements.{Element}
use Rattle.cdi_problems.specs.Places.{name_text, place_text}

abbrev pub is_producer : Member → Bool
is_producer (members.Producer p) = true
is_producer (members.ProducerField p) = true
is_producer _ = false

-- from the class to the product
abbrev pub producer_line : List (List ℕ) → Class → Member → List ℕ
producer_line names c m =
    edge_line (name_text names c.name) (place_text names (places.Member c.name (member_name m)))
    (codes "produces") looks.Dotted

-- a class that is no bean has no producers
abbrev pub producer_text : List (List ℕ) → Element → List ℕ
producer_text names (Element.AMember i c m) =
    if is_bean c && is_producer m then producer_line names c m else []
producer_text names _ = []

abbrev pub producers_text : List (List ℕ) → List Element → List ℕ
producers_text names elements = flat_map (producer_text names) elements
