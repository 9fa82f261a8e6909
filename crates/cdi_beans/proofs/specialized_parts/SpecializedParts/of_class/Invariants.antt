use Rattle.std.proofs.Common.{map}
use Rattle.std.specs.List.{Contains}
use Rattle.cdi_types.specs.Declarations.{of_class}
use Rattle.cdi_types.proofs.Steps.{steps_of}
use Rattle.cdi_beans.specs.ManagedQualifiers.{qualifiers_in}
use Rattle.cdi_beans.specs.SpecializedParts.{HasOwn}
use Rattle.cdi_beans.proofs.Specialized.{HasWalked}
use Rattle.cdi_beans.proofs.specialized_parts.SpecializedParts.of_class.Given as goal

abbrev pub invariant-loop-specialized : goal.invariant-loop-specialized
invariant-loop-specialized l = record {
  listed : Contains l.beans l.lowest;
  own : HasOwn l.beans l.types l.self;
  so_far : HasWalked l.beans l.types l.class l.lowest (qualifiers_in l.found);
}

abbrev pub decreases-loop-specialized : goal.decreases-loop-specialized
decreases-loop-specialized l = steps_of (map of_class l.beans) l.lowest.name
