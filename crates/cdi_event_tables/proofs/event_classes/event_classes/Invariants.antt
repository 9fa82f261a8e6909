use Rattle.std.proofs.Common.{take}
use Rattle.cdi_name_check.specs.NameSets.{HasNames}
use Rattle.cdi_event_tables.proofs.EventClasses.{is_named_among}
use Rattle.cdi_event_tables.proofs.event_classes.event_classes.Given as goal

-- those of the classes that were looked at
abbrev pub invariant-loop-class : goal.invariant-loop-class
invariant-loop-class l = HasNames (is_named_among l.classes (take l.class-index l.classes)) l.names
