use Rattle.cdi_types.proofs.Order.{below_superclass}
use Rattle.cdi_types.proofs.subtype_laws.law_forest.Goals as goal

pub returns : goal.returns
returns c = record {
  below = λ types a b p. below_superclass types p;
  forest = λ types acyclic a p. acyclic a (below_superclass types p);
}
