use Rattle.std.proofs.Common.{take, All}
use Rattle.cdi_bean_check.specs.BeanTypes.{IsLost}
use Rattle.cdi_bean_check.proofs.lost_types.lacks_type_of.Given as goal

abbrev pub invariant-loop-declared : goal.invariant-loop-declared
invariant-loop-declared l = All (λ d. IsLost l.types l.specialized l.class d.name → ⊥) (take l.declared-index l.declared-items)
