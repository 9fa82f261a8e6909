use Rattle.std.proofs.Common.{take}
use Rattle.cdi_quals.specs.Types.{AreTypesOf}
use Rattle.cdi_quals.proofs.types.types_of.Given as goal

abbrev pub invariant-loop-declaration : goal.invariant-loop-declaration
invariant-loop-declaration l = AreTypesOf l.names (take l.declaration-index l.declared) l.types
