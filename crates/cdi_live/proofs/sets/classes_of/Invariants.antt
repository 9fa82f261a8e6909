use Rattle.std.proofs.Common.{take}
use Rattle.cdi_name_check.specs.NameSets.{HasNames}
use Rattle.cdi_live.specs.Live.{is_live_class}
use Rattle.cdi_live.proofs.sets.classes_of.Given as goal

abbrev pub invariant-loop-bean : goal.invariant-loop-bean
invariant-loop-bean l = HasNames (is_live_class (take l.bean-index l.enabled)) l.set
