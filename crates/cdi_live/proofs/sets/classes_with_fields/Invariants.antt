use Rattle.std.proofs.Common.{take}
use Rattle.cdi_live.specs.Live.{HasFieldsOf}
use Rattle.cdi_live.specs.LiveSets.{HasThose}
use Rattle.cdi_live.proofs.sets.classes_with_fields.Given as goal

abbrev pub invariant-loop-class : goal.invariant-loop-class
invariant-loop-class l = HasThose (HasFieldsOf (take l.class-index l.classes) l.types l.enabled) l.set
