-- The points that the code borrows.
use Rattle.cdi_deployment.specs.declared.deployment.Point.{Point}
use Rattle.cdi_shape_check.specs.declared.references.Target.{Target}

abbrev pub point_of : Target → Point
point_of t = record { ty = t.ty.now; quals = t.qualifiers.now }
