use Rattle.std.proofs.Common.{take}
use Rattle.cdi_types.specs.ListsThose.{ListsThose}
use Rattle.cdi_types.specs.Subtype.{IsSubtype, names_of}
use Rattle.cdi_types.proofs.table.TypeTable.types_of.Given as goal

abbrev pub invariant-loop-index : goal.invariant-loop-index
invariant-loop-index l = ListsThose (IsSubtype l.self l.name) (names_of (take l.index l.declared-items)) l.found
