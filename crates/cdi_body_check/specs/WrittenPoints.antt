-- What injected fields and lookups ask for.
use Rattle.cdi_bodies.specs.declared.shape.Lookup.{Lookup}
use Rattle.cdi_deployment.specs.declared.deployment.InjectedField.{InjectedField}
use Rattle.cdi_deployment.specs.declared.deployment.Point.{Point}

abbrev pub point_of_field : InjectedField → Point
point_of_field f = record { ty = f.ty; quals = f.quals }

abbrev pub point_of_lookup : Lookup → Point
point_of_lookup l = record { ty = l.bean_type; quals = l.qualifiers }
