use Rattle.cdi_types.specs.Subtype.{IsSubtype}
use Rattle.cdi_types.proofs.Order.{transitive, antisymmetric}
use Rattle.cdi_types.proofs.subtype_laws.law_partial_order.Goals as goal

pub returns : goal.returns
returns c = record {
  reflexive = λ types a. IsSubtype.itself;
  transitive = λ types topmost. transitive types topmost;
  antisymmetric = λ types topmost acyclic. antisymmetric types topmost acyclic;
}
