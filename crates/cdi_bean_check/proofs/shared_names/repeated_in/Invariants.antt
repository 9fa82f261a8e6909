use Rattle.std.proofs.Common.{take}
use Rattle.cdi_bean_check.specs.SharedNames.{HasRepeated, HasSeen}
use Rattle.cdi_bean_check.proofs.shared_names.repeated_in.Given as goal

abbrev pub invariant-loop-name : goal.invariant-loop-name
invariant-loop-name l = HasSeen (take l.name-index l.names) l.seen × HasRepeated (take l.name-index l.names) l.repeated
