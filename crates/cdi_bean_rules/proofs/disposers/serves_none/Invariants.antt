use Rattle.std.proofs.Common.{take, All}
use Rattle.cdi_bean_rules.specs.Disposers.{Serves}
use Rattle.cdi_bean_rules.proofs.disposers.serves_none.Given as goal

abbrev pub invariant-loop-producer : goal.invariant-loop-producer
invariant-loop-producer l = All (λ m. Serves l.types l.qualifiers l.disposer m → ⊥) (take l.producer-index l.members)
