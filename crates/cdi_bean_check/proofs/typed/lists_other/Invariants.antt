use Rattle.std.proofs.Common.{take, All}
use Rattle.cdi_types.specs.Subtype.{IsSubtype}
use Rattle.cdi_bean_check.proofs.typed.lists_other.Given as goal

abbrev pub invariant-loop-name : goal.invariant-loop-name
invariant-loop-name l = All (λ name. IsSubtype l.types l.of name) (take l.name-index l.typed)
