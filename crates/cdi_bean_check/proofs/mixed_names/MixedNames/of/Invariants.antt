use Rattle.std.proofs.Common.{take}
use Rattle.cdi_bean_check.specs.MixedNames.{HasSeenAll}
use Rattle.cdi_bean_check.proofs.mixed_names.MixedNames.of.Given as goal

abbrev pub invariant-loop-class : goal.invariant-loop-class
invariant-loop-class l = HasSeenAll (take l.class-index l.classes) l.names
